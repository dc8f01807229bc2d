-- With nothing held none follows in turn; and beyond what is held a packet's own number is the floor.
-- Assumes nothing.
use Rattle.std.specs.Prelude.{Some}
use mathlib.Core.Path.{◌≡◌, refl, ap, sym, ◌∙◌}
use mathlib.Core.Bool.{Bool, true, false, cond}
use mathlib.Core.Logic.{⊎_elim}
use Prim.Native.Nat.{ℕ, zero, suc, ◌+◌, ◌-◌, ◌%◌, ◌≤◌, ◌<◌}
use native.Mathlib.Omega.{arith}
use lib.Dec.{leb}
use lib.ListN.{get_or, set}
use lib.Seq.{set-get_or}
use borrow.Author.Tests.{ne_eqb, le-leb}
use Rattle.interface_display.specs.declared.Display.{Display}
use Rattle.interface_display.specs.declared.packet.EventPacket.{EventPacket}
use Rattle.interface_display.specs.declared.packet.Packet.{Packet}
use Rattle.interface_display.specs.declared.packet.Picture.{Picture}
use Rattle.desk_follower.specs.Held.{none, nothing, packet_at, put, holds, greatest, kept_above, above}
use Rattle.desk_follower.specs.Follower.{lost, showing, at, taken_at}
use Rattle.desk_follower.specs.WellFormed.{Within}
use Rattle.desk_follower.specs.declared.Shown.{Shown}
use Rattle.desk_follower.specs.declared.held.Held.{Held}
use Rattle.desk_follower.proofs.Kept.{none_at}
use Rattle.desk_follower.proofs.Laws.{event_beyond, greatest_base, greatest_le}
use Rattle.bytes_take.specs.Turned.{turned, dropped_to, outcome}

nothing_number : (i : ℕ) → (packet_at nothing i).number ≡ 0
nothing_number i = ap (λ (p : EventPacket). p.number) (none_at 8 i)

put_none : (i : ℕ) → put nothing i none ≡ nothing
put_none i =
    let e : set nothing.packets i (get_or nothing.packets i none) ≡ nothing.packets = set-get_or nothing.packets i none in
    ap (λ (p : EventPacket). put nothing i p) (sym (none_at 8 i)) ∙ (λ j. record { packets = e j })

none_follows : (m : ℕ) → holds nothing (m + 1) ≡ false
none_follows m =
    let z : (packet_at nothing ((m + 1) % 8)).number ≡ m + 1 → ⊥ = λ e. omega (arith, e, nothing_number ((m + 1) % 8)) in
    ne_eqb (packet_at nothing ((m + 1) % 8)).number (m + 1) z

-- nothing follows in turn
turned_nothing : (k n : ℕ) (d : Display) → turned k n d nothing ≡ Some (at n d)
unfolding turned
turned_nothing zero n d = refl
turned_nothing (suc k) n d = rw (none_follows n)

above_nothing : (m k : ℕ) → above m k nothing ≡ nothing
unfolding above
above_nothing m zero = refl
above_nothing m (suc k) =
    let e : leb (packet_at nothing k).number m ≡ true = le-leb (packet_at nothing k).number m (omega (arith, nothing_number k)) in
    ap (kept_above m k) (above_nothing m k) ∙ (ap (λ (b : Bool). cond b (put nothing k none) nothing) e ∙ put_none k)

pub level_outcome : (f n : ℕ) (d : Display) → outcome f (turned 8 n d nothing) n (above n 8 nothing) ≡ showing (at n d) nothing
level_outcome f n d =
    let z : n - n ≡ 0 = omega arith in
    (λ i. outcome f (turned_nothing 8 n d i) n (above_nothing n 8 i)) ∙ ap (λ (j : ℕ). showing (at n d) (dropped_to j n nothing)) z

-- beyond what is held, the packet's own number is the greatest
pub beyond : (s : Picture) (h : Held) (e : EventPacket) → Within (s.number + 2) (s.number + 8) h → s.number + 8 < e.number
    → taken_at (Shown.Picture s) h (Packet.Event e) ≡ lost e.number
beyond s h e w l =
    let held-le : (i : ℕ) → i < 8 → (packet_at h i).number ≤ e.number = λ i k.
    ⊎_elim (λ z. let a : (packet_at h i).number ≡ 0 = ap (λ (p : EventPacket). p.number) z in omega (arith, a)) (λ z. omega (arith, z.1, l)) (w.1 i k) in
    let x = greatest_base e.number 8 h in
    let y = greatest_le e.number e.number 8 h (omega arith) held-le in
    let g : greatest e.number 8 h ≡ e.number = omega (arith, x, y) in
    event_beyond s h e l ∙ ap lost g
