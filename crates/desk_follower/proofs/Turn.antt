-- The held packets in turn, one packet further: it stops, fails or goes on, by what is held for the next number.
-- Assumes nothing.
use Rattle.std.specs.Prelude.{None, Some}
use mathlib.Core.Path.{◌≡◌, refl, ap, ◌∙◌}
use mathlib.Core.Bool.{Bool, true, false, cond}
use Prim.Native.Nat.{ℕ, zero, suc, ◌+◌, ◌-◌, ◌<◌, ◌≤◌}
use native.Mathlib.Omega.{arith}
use lib.Dec.{eqb}
use borrow.Author.Tests.{eqb-true, eq-eqb, ne_eqb}
use Rattle.interface_display.specs.Notices.{all_applied}
use Rattle.interface_display.specs.declared.Display.{Display}
use Rattle.interface_display.specs.declared.packet.EventPacket.{EventPacket}
use Rattle.desk_follower.specs.declared.held.Held.{Held}
use Rattle.desk_follower.specs.Held.{held_for, holds, dropped}
use Rattle.desk_follower.specs.Follower.{lost, showing, at, in_turn}

module _ (f n : ℕ) (d : Display) (h : Held) where
  turned : (k : ℕ) → in_turn (suc k) f n d h ≡ cond (holds h (n + 1))
      (cond (eqb (held_for h (n + 1)).answer 0) (in_turn k f (n + 1) (all_applied (held_for h (n + 1)).notices d) (dropped h (n + 1))) (lost f))
      (showing (at n d) h)
  unfolding in_turn
  turned k = refl

  -- the packet found is that of the next number
  found : (p : EventPacket) (b : Bool) → holds h (n + 1) ≡ b → Some p ≡ cond b (Some (held_for h (n + 1))) None
      → (holds h (n + 1) ≡ true) × ((p ≡ held_for h (n + 1)) × (p.number ≡ n + 1))
  found p true q e =
      let s : p ≡ held_for h (n + 1) = cc in
      (q, (s, ap (λ (x : EventPacket). x.number) s ∙ eqb-true _ _ q))
  found p false q e = absurd (cc)

  pub fails : (k : ℕ) → 0 < k → (p : EventPacket) → Some p ≡ cond (holds h (n + 1)) (Some (held_for h (n + 1))) None → (p.answer ≡ 0 → ⊥)
      → in_turn k f n d h ≡ lost f
  fails k l p e a =
      let s : k ≡ suc (k - 1) = omega arith in
      let q = found p (holds h (n + 1)) refl e in
      ap (λ (j : ℕ). in_turn j f n d h) s ∙ (turned (k - 1) ∙ rw (q.0, ne_eqb _ _ (rw q.1.0 at a)))

  pub goes : (i : ℕ) → i < 8 → (p : EventPacket) → Some p ≡ cond (holds h (n + 1)) (Some (held_for h (n + 1))) None → p.answer ≡ 0
      → (d' : Display) → d' ≡ all_applied p.notices d → (g : Held) → g ≡ cond (holds h (n + 1)) (dropped h (n + 1)) h
      → in_turn (8 - i) f n d h ≡ in_turn (8 - (i + 1)) f p.number d' g
  goes i l p e a d' b g o =
      let s : 8 - i ≡ suc (8 - (i + 1)) = omega arith in
      let q = found p (holds h (n + 1)) refl e in
      ap (λ (j : ℕ). in_turn j f n d h) s
      ∙ (turned (8 - (i + 1))
      ∙ rw (q.0, eq-eqb _ _ (rw q.1.0 at a), b, o, q.0, q.1.1, q.1.0))

  none_found : (b : Bool) → holds h (n + 1) ≡ b → None ≡ cond b (Some (held_for h (n + 1))) None → holds h (n + 1) ≡ false
  none_found true q e = absurd (cc)
  none_found false q e = q

  pub stops : (k : ℕ) → None ≡ cond (holds h (n + 1)) (Some (held_for h (n + 1))) None → (g : Held) → g ≡ cond (holds h (n + 1)) (dropped h (n + 1)) h
      → in_turn k f n d h ≡ showing (at n d) g
  unfolding in_turn
  stops zero e g o = rw (o, none_found (holds h (n + 1)) refl e)
  stops (suc k) e g o = turned k ∙ rw (o, none_found (holds h (n + 1)) refl e)

  pub ends : (i : ℕ) → 8 ≤ i → in_turn (8 - i) f n d h ≡ showing (at n d) h
  unfolding in_turn
  ends i l =
      let s : 8 - i ≡ 0 = omega arith in
      ap (λ (j : ℕ). in_turn j f n d h) s
