-- The low bytes of the numbers returned: what follows is a multiple of 256, and of 65536.
use Rattle.std.specs.Prelude.{Err, Ok, Result}
use mathlib.Core.Path.{◌≡◌}
use Prim.Native.Nat.{ℕ, ◌/◌, ◌%◌, ◌<◌, ◌≤◌}
use native.Mathlib.Omega.{arith}
use lib.Dec.{lit<}
use Rattle.power_policy_interface.specs.declared.psu.Error.{Error}
use Rattle.abstract_policy.specs.declared.order.Order.{Order}
use Rattle.abstract_calls.specs.Numbers.{packed, refused_number, wait_ms, order_number, closed_number, written_number, done_number}

pub packed_low : (w a b c d e : ℕ) → w < 256 → packed w a b c d e % 256 ≡ w
packed_low w a b c d e h = omega (arith, h)

pub refused_low : (n : ℕ) → refused_number n % 256 ≡ 0
refused_low n = packed_low 0 n 0 0 0 0 (lit< tt)

pub order_low : (o : Order) → order_number o % 256 ≡ 1
order_low (Order.Disconnect p) = packed_low 1 0 p 0 0 0 (lit< tt)
order_low (Order.ConnectConsumer p c) = packed_low 1 1 p _ _ _ (lit< tt)
order_low (Order.ConnectProvider p c) = packed_low 1 2 p _ _ _ (lit< tt)
order_low (Order.IsReady i) = packed_low 1 3 i 0 0 0 (lit< tt)
order_low (Order.InitCharger i) = packed_low 1 4 i 0 0 0 (lit< tt)
order_low (Order.Attach i c) = packed_low 1 5 i _ _ _ (lit< tt)
order_low (Order.Detach i) = packed_low 1 6 i 0 0 0 (lit< tt)
order_low Order.Wait = packed_low 1 7 0 0 wait_ms 0 (lit< tt)

pub closed_low : (a : Result (Unit {0}) Error) (n : ℕ) → closed_number a n % 256 ≡ 2
closed_low (Ok tt) n = packed_low 2 0 0 0 n 0 (lit< tt)
closed_low (Err e) n = packed_low 2 _ _ _ n 0 (lit< tt)

pub written_low : (n : ℕ) → written_number n % 256 ≡ 3
written_low n = packed_low 3 (n % 256) 0 0 0 0 (lit< tt)

-- the length in the next byte
pub written_length : (n : ℕ) → n ≤ 64 → written_number n / 256 % 256 ≡ n
written_length n h = omega (arith, h)

pub done_low : done_number % 256 ≡ 4
done_low = packed_low 4 0 0 0 0 0 (lit< tt)
