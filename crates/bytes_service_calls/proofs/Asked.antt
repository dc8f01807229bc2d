-- What is asked of the service of an image decides what a write returns and leaves. Assumes nothing.
use Rattle.std.specs.Prelude.{Option, Err, Result, MatchResult, ok_or, List, ℕ, ◌≡◌}
use Rattle.std.proofs.Common.{arith}
use Rattle.std.proofs.lemmas.Grind.{common_steps}
use Rattle.power_policy_interface.specs.Refusal.{numbered}
use Rattle.power_policy_interface.specs.declared.refusal.Refusal.{Refusal}
use Rattle.interface_display.specs.declared.packet.EventPacket.{EventPacket}
use Rattle.interface_display.specs.declared.packet.Picture.{Picture}
use Rattle.machine_service.specs.Send.{send_packet, send_picture}
use Rattle.machine_service.specs.declared.Service.{Service}
use Rattle.abstract_calls.specs.Lent.{written_call}
use Rattle.wire.specs.Bytes.{event_bytes, picture_bytes}
use Rattle.bytes_calls.specs.Calls.{write_packet_call, write_picture_call}
use Rattle.bytes_service_calls.specs.Step.{asked_call}

module _ (o : Option Service) (b : List ℕ) where
  pub packet_asked : (q : Result EventPacket Refusal) → MatchResult (ok_or o Refusal.Image) (λ s. numbered q ≡ send_packet s) (λ e. q ≡ Err e)
      → asked_call (λ x c. written_call (event_bytes x) c) q b ≡ write_packet_call o b
  packet_asked q h = grind (arith, common_steps)

  pub picture_asked : (q : Result Picture Refusal) → MatchResult (ok_or o Refusal.Image) (λ s. numbered q ≡ send_picture s) (λ e. q ≡ Err e)
      → asked_call (λ x c. written_call (picture_bytes x) c) q b ≡ write_picture_call o b
  picture_asked q h = grind (arith, common_steps)
