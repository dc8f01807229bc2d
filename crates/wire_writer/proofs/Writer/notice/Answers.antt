-- By the kind: its byte, and what follows it.
use native.Mathlib.Omega.{arith}
use Rattle.wire.specs.Bytes.{notice_bytes}
use Rattle.wire_writer.proofs.Parts.{joined, loosely}
use Rattle.wire_writer.proofs.Writer.notice.Goals as goal

pub returns-in-ConsumerDisconnected : goal.returns-in-ConsumerDisconnected
unfolding notice_bytes
returns-in-ConsumerDisconnected c =
    let a = rw c.from.ensures at c.byte-in-ConsumerDisconnected-2.ensures in
    rw c.in-ConsumerDisconnected.is (loosely (joined c.byte.ensures (joined c.byte-in-ConsumerDisconnected.ensures a)) (omega arith))

pub returns-in-ConsumerConnected : goal.returns-in-ConsumerConnected
unfolding notice_bytes
returns-in-ConsumerConnected c =
    let a = rw c.from-in-ConsumerConnected.ensures at c.contract.ensures in
    rw c.in-ConsumerConnected.is (joined c.byte-in-ConsumerConnected.ensures a)

pub returns-in-ProviderDisconnected : goal.returns-in-ProviderDisconnected
unfolding notice_bytes
returns-in-ProviderDisconnected c =
    rw c.in-ProviderDisconnected.is (loosely (joined c.byte-in-ProviderDisconnected.ensures c.byte-in-ProviderDisconnected-2.ensures) (omega arith))

pub returns-in-ProviderConnected : goal.returns-in-ProviderConnected
unfolding notice_bytes
returns-in-ProviderConnected c =
    let a = rw c.from-in-ProviderConnected.ensures at c.contract-in-ProviderConnected.ensures in
    rw c.in-ProviderConnected.is (joined c.byte-in-ProviderConnected.ensures a)

pub returns-in-Unconstrained : goal.returns-in-Unconstrained
unfolding notice_bytes
returns-in-Unconstrained c =
    rw c.in-Unconstrained.is (loosely (joined c.byte-in-Unconstrained.ensures c.unconstrained.ensures) (omega arith))
