-- What the definition sends: by its conditions, the packet of the event closed last, or the picture of what is held.
use Rattle.std.specs.Prelude.{Err, Ok, Result}
use mathlib.Core.Path.{◌≡◌, refl, sym, ap, ◌∙◌}
use mathlib.Core.Bool.{Bool, true, false, cond}
use Prim.Native.Nat.{ℕ}
use lib.Dec.{eqb}
use Rattle.power_policy_interface.specs.Psu.{answer_byte}
use Rattle.interface_display.specs.Notices.{empty}
use Rattle.interface_display.specs.declared.packet.EventPacket.{EventPacket}
use Rattle.interface_display.specs.declared.packet.Picture.{Picture}
use Rattle.abstract_policy.specs.Refusals.{first_refused, packet_conditions, picture_conditions}
use Rattle.abstract_policy.specs.State.{display_of}
use Rattle.abstract_policy.specs.Policy.{Policy, Stand, between, at, is_at}
use Rattle.abstract_policy.specs.Returns.{pushed_all, packet_to, picture_to}

abbrev pub packet_of : Policy → EventPacket
packet_of p = record { number = p.number; answer = answer_byte p.answer; orders = p.orders; notices = pushed_all empty p.notices }

abbrev pub picture_of : Policy → Picture
picture_of p = record { number = p.number; display = display_of p.state }

told : {A : Type 0} (t : Bool) (n : ℕ) (x y : A) → cond {A = Result A ℕ} t (Ok y) (Err n) ≡ Ok x → x ≡ y
told true n x y q = cc
told false n x y q = cc

pub packet_is : (p : Policy) (e : EventPacket) → packet_to p ≡ Ok e → e ≡ packet_of p
packet_is p e q =
    let n : ℕ = first_refused (packet_conditions (is_at p.stand) p.number) in
    told (eqb n 0) n e (packet_of p) q

pub picture_is : (p : Policy) (v : Picture) → picture_to p ≡ Ok v → v ≡ picture_of p
picture_is p v q =
    let n : ℕ = first_refused (picture_conditions (is_at p.stand)) in
    told (eqb n 0) n v (picture_of p) q

-- while an event is open there is no packet
pub packet_closed : (p : Policy) (e : EventPacket) → packet_to p ≡ Ok e → p.stand ≡ between
packet_closed p e q = go p.stand refl
  where
    sent : Stand → Result EventPacket ℕ
    sent x =
        let n : ℕ = first_refused (packet_conditions (is_at x) p.number) in
        cond (eqb n 0) (Ok (packet_of p)) (Err n)

    go : (x : Stand) → p.stand ≡ x → p.stand ≡ between
    go between h = h
    go (at n o k) h = let z : ◌≡◌ {A = Result EventPacket ℕ} (Err 25) (Ok e) = sym (ap sent h) ∙ q in cc
