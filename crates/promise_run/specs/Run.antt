-- A run of the service: a start and a list of calls, refused ones included, and what it writes.
use Rattle.std.specs.Prelude.{List, [], ◌∷◌, ◌⊎◌, ◌≡◌, Ok}
use Rattle.interface_display.specs.declared.packet.EventPacket.{EventPacket}
use Rattle.interface_display.specs.declared.packet.Packet.{Packet}
use Rattle.interface_display.specs.declared.packet.Picture.{Picture}
use Rattle.abstract_policy.specs.Policy.{Call, open_event, give_answer, write_packet, write_picture}
use Rattle.machine_service.specs.Service.{open_of, answer_of}
use Rattle.machine_service.specs.declared.Service.{Service}
use Rattle.machine_service.specs.Send.{send_packet, send_picture}
use Rattle.promise_run.specs.Sized.{RecordsFit}

-- Each call as the service has it, as one record: the service after it, what it writes if it is not turned back, and that its records have their figures within
-- their types.
pub record MachineCall : Type 1 where
  pub after : Service → Service
  pub sends : Service → Packet → Type 0
  pub fits : Type 0

abbrev pub machine_call : Call → MachineCall
machine_call (open_event kind device detail r) = record { after = λ s. (open_of s kind device detail r).service; sends = λ s p. ⊥; fits = RecordsFit r }
machine_call (give_answer a r) = record { after = λ s. (answer_of s a r).service; sends = λ s p. ⊥; fits = RecordsFit r }
machine_call write_packet = record {
  after = λ s. s;
  sends = λ s p. (e : EventPacket) × (send_packet s ≡ Ok e) × (p ≡ Packet.Event e);
  fits = Unit {0};
}
machine_call write_picture = record {
  after = λ s. s;
  sends = λ s p. (v : Picture) × (send_picture s ≡ Ok v) × (p ≡ Packet.Picture v);
  fits = Unit {0};
}

abbrev pub after_call : Service → Call → Service
after_call s c = (machine_call c).after s

abbrev pub Sends : Service → Call → Packet → Type 0
Sends s c p = (machine_call c).sends s p

-- some call of the run does
abbrev pub HasSent : Service → List Call → Packet → Type 0
HasSent s [] p = ⊥
HasSent s (c ∷ l) p = Sends s c p ⊎ HasSent (after_call s c) l p

-- after a list of calls
abbrev pub services : Service → List Call → Service
services s [] = s
services s (c ∷ l) = services (after_call s c) l

-- their records have figures within their types

abbrev pub CallFits : Call → Type 0
CallFits c = (machine_call c).fits

abbrev pub CallsFit : List Call → Type 0
CallsFit [] = Unit {0}
CallsFit (c ∷ l) = CallFits c × CallsFit l
