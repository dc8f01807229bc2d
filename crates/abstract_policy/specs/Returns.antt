-- What the definition says that each call returns, from the policy alone.
use Rattle.std.specs.Prelude.{ℕ, cond, List, [], ◌∷◌, eqb, Err, None, Ok, Result}
use Rattle.power_policy_interface.specs.Psu.{answer_byte}
use Rattle.interface_display.specs.declared.packet.EventPacket.{EventPacket}
use Rattle.interface_display.specs.declared.packet.Picture.{Picture}
use Rattle.power_policy_interface.specs.declared.service.event.Event.{Event}
use Rattle.interface_display.specs.Notices.{empty, pushed}
use Rattle.interface_display.specs.declared.notices.Notices.{Notices}
use Rattle.abstract_policy.specs.Action.{Interaction, done, ask}
use Rattle.abstract_policy.specs.Given.{event_of, result_of}
use Rattle.abstract_policy.specs.Interaction.{event}
use Rattle.abstract_policy.specs.Policy.{Stand, between, at, Policy, is_at, open_refused}
use Rattle.abstract_policy.specs.Refusals.{first_refused, answer_conditions, no_answer, packet_conditions, picture_conditions}
use Rattle.abstract_policy.specs.State.{display_of}
use Rattle.abstract_policy.specs.declared.outcome.Step.{Step}
use Rattle.abstract_policy.specs.declared.state.Records.{Records}

-- what a call brings about when this is left after n orders: the next order, or the close, which tells their number
abbrev pub brings : ℕ → Interaction → Result Step ℕ
brings n (done a h) = Ok (Step.Closed a n)
brings n (ask o k) = Ok (Step.Order o)

-- an opening and an answer: an order, a close, or the number that turns it back

abbrev pub open_to : Policy → ℕ → ℕ → ℕ → Records → Result Step ℕ
open_to p kind device detail r =
    let n : ℕ = open_refused p kind device detail in
    cond (eqb n 0)
    (cond (eqb kind 5) (Ok (Step.Closed (Ok tt) 0)) (brings 0 (event p.registration device (event_of kind detail) p.state r)))
    (Err n)

abbrev pub answer_to : Stand → ℕ → Records → Result Step ℕ
answer_to between a r = Err (first_refused (answer_conditions None a))
answer_to (at n o k) a r = cond (no_answer o a) (Err 24) (brings n (k (result_of a) r))

-- PKT-2, the writes: the packet of the event closed last, what is held, or the number that turns it back

-- into the places of a packet, one after the other
abbrev pub pushed_all : Notices → List Event → Notices
pushed_all n [] = n
pushed_all n (e ∷ l) = pushed_all (pushed n e) l

abbrev pub packet_to : Policy → Result EventPacket ℕ
packet_to p =
    let n : ℕ = first_refused (packet_conditions (is_at p.stand) p.number) in
    cond (eqb n 0)
    (Ok
    (record { number = p.number; answer = answer_byte p.answer; orders = p.orders; notices = pushed_all empty p.notices }))
    (Err n)

abbrev pub picture_to : Policy → Result Picture ℕ
picture_to p =
    let n : ℕ = first_refused (picture_conditions (is_at p.stand)) in
    cond (eqb n 0) (Ok (record { number = p.number; display = display_of p.state })) (Err n)
