-- The definitions are the set of heapless's documentation: a port's membership is its bit, and inserting or removing it changes that bit alone.
-- Assumes nothing.
use Rattle.std.specs.Prelude.{Ok, Err}
use mathlib.Core.Path.{◌≡◌, refl, ap, sym, ◌∙◌}
use mathlib.Core.Bool.{Bool, true, false, cond, not, ◌&&◌, ◌||◌, or-true, or-false, and-true, and-false}
use Prim.Native.Nat.{ℕ, ◌+◌, ◌^◌, ◌<◌, ◌≤◌}
use native.Mathlib.Omega.{arith}
use lib.Bits.{bit_or, bit_xor}
use lib.Dec.{eqb, ltb}
use borrow.Author.Tests.{eqb-true, eqb-false, ltb-true, lt-ltb}
use Rattle.std.proofs.lemmas.Bool.{and_parts}
use Rattle.interface_display.specs.Providers.{max_connected_providers, bit_at, contains, len, room, Inserted, Removed}
use Rattle.interface_display.specs.Set.{SetLaws, more}
use Rattle.interface_display.specs.declared.providers.Providers.{Providers}
use Rattle.std.proofs.lemmas.Nat.Bits.{bit_at-lt, bit_at-zero}
use Rattle.interface_display.proofs.OneBit.{set_bit, set_others, cleared_bit, cleared_others, ones_but}

-- a port with its bit set, and without

abbrev pub with : Providers → ℕ → Providers
with s p = record { mask = bit_or s.mask (2 ^ p) }

abbrev pub without : Providers → ℕ → Providers
without s p = record { mask = bit_xor s.mask (2 ^ p) }

pub member : (s : Providers) (p : ℕ) → contains s p ≡ true → (p < 16) × (bit_at s.mask p ≡ 1)
member s p e =
    let h = and_parts (ltb p 16) (eqb (bit_at s.mask p) 1) e in
    (ltb-true p 16 h.0, eqb-true (bit_at s.mask p) 1 h.1)

not_member : (s : Providers) (p : ℕ) → p < 16 → contains s p ≡ false → bit_at s.mask p ≡ 0
not_member s p l e =
    let f : eqb (bit_at s.mask p) 1 ≡ false = rw (lt-ltb p 16 l) at e in
    omega (arith, bit_at-lt s.mask p, eqb-false (bit_at s.mask p) 1 f)

pub has_room : (s : Providers) (p : ℕ) → room s p ≡ true → (p < 16) × (len s < max_connected_providers)
has_room s p e =
    let h = and_parts (ltb p 16) (ltb (len s) max_connected_providers) e in
    (ltb-true p 16 h.0, ltb-true (len s) max_connected_providers h.1)

with_there : (s : Providers) (p q : ℕ) → p < 16 → contains (with s p) q ≡ (contains s q || eqb q p)
with_there s p q l = go (eqb q p) refl
  where
    go : (b : Bool) → eqb q p ≡ b → contains (with s p) q ≡ (contains s q || b)
    go true e = rw (eqb-true q p e, set_bit s.mask p, lt-ltb p 16 l) (sym (or-true (eqb (bit_at s.mask p) 1)))
    go false e = rw (set_others s.mask p q (eqb-false q p e)) (sym (or-false (contains s q)))

without_there : (s : Providers) (p q : ℕ) → contains s p ≡ true → contains (without s p) q ≡ (contains s q && not (eqb q p))
without_there s p q h = go (eqb q p) refl
  where
    go : (b : Bool) → eqb q p ≡ b → contains (without s p) q ≡ (contains s q && not b)
    go true e = rw (eqb-true q p e, cleared_bit s.mask p (member s p h).1, and-false (ltb p 16)) (sym (and-false (contains s p)))
    go false e = rw (cleared_others s.mask p q (eqb-false q p e)) (sym (and-true (contains s q)))

-- by what is found

abbrev pub inserted : Providers → ℕ → Bool → Bool → Inserted
inserted s p c r =
    cond c (record { found = Ok false; providers = s })
    (cond r (record { found = Ok true; providers = with s p }) (record { found = Err p; providers = s }))

abbrev pub removed : Providers → ℕ → Bool → Removed
removed s p c = cond c (record { found = true; providers = without s p }) (record { found = false; providers = s })

inserted_there : (s : Providers) (p q : ℕ) (c : Bool) → contains s p ≡ c → (r : Bool) → room s p ≡ r → contains (inserted s p c r).providers q ≡ (contains s q || eqb q p && r)
inserted_there s p q false e true f = with_there s p q (has_room s p f).0 ∙ ap (λ (b : Bool). contains s q || b) (sym (and-true (eqb q p)))
inserted_there s p q false e false f = sym (ap (λ (b : Bool). contains s q || b) (and-false (eqb q p)) ∙ or-false (contains s q))
inserted_there s p q true e r f = go (eqb q p) refl
  where
    go : (b : Bool) → eqb q p ≡ b → contains s q ≡ (contains s q || b && r)
    go true i = rw (eqb-true q p i, e)
    go false i = sym (or-false (contains s q))

pub inserted_length : (s : Providers) (p : ℕ) (c : Bool) → contains s p ≡ c → (r : Bool) → room s p ≡ r → len (inserted s p c r).providers ≡ len s + more (inserted s p c r).found
inserted_length s p true e r f = omega arith
inserted_length s p false e false f = omega arith
inserted_length s p false e true f =
    let l = (has_room s p f).0 in
    omega (arith, ones_but (with s p).mask s.mask p 16 (set_others s.mask p) l, set_bit s.mask p, not_member s p l e)

removed_there : (s : Providers) (p q : ℕ) (c : Bool) → contains s p ≡ c → contains (removed s p c).providers q ≡ (contains s q && not (eqb q p))
removed_there s p q true e = without_there s p q e
removed_there s p q false e = go (eqb q p) refl
  where
    go : (b : Bool) → eqb q p ≡ b → contains s q ≡ (contains s q && not b)
    go true i = rw (eqb-true q p i, e)
    go false i = sym (and-true (contains s q))

pub removed_length : (s : Providers) (p : ℕ) (c : Bool) → contains s p ≡ c → len s ≡ len (removed s p c).providers + cond (removed s p c).found 1 0
removed_length s p false e = omega arith
removed_length s p true e =
    let h = member s p e in
    omega (arith, ones_but (without s p).mask s.mask p 16 (cleared_others s.mask p) h.0, h.1, cleared_bit s.mask p h.1)

found_is : (s : Providers) (p : ℕ) (c : Bool) → (removed s p c).found ≡ c
found_is s p true = refl
found_is s p false = refl

without_room : (s : Providers) (p q : ℕ) → len s ≤ max_connected_providers → contains s p ≡ true → q < 16 → room (without s p) q ≡ true
without_room s p q l e i =
    let h : len (without s p) < max_connected_providers = omega (arith, removed_length s p true e, l) in
    rw (lt-ltb q 16 i, lt-ltb (len (without s p)) max_connected_providers h)

pub set_laws : SetLaws
set_laws =
    record {
      capacity = refl;
      none_there = λ q. rw (bit_at-zero q) (and-false (ltb q 16));
      none_length = refl;
      room_is = λ s p. (has_room s p, λ h. rw (lt-ltb p 16 h.0, lt-ltb (len s) max_connected_providers h.1));
      present = λ s p e. rw e;
      added = λ s p e f. rw (e, f);
      full = λ s p e f. rw (e, f);
      insert_there = λ s p q. inserted_there s p q (contains s p) refl (room s p) refl;
      insert_length = λ s p. inserted_length s p (contains s p) refl (room s p) refl;
      remove_found = λ s p. found_is s p (contains s p);
      absent = λ s p e. rw e;
      remove_there = λ s p q. removed_there s p q (contains s p) refl;
      remove_length = λ s p. removed_length s p (contains s p) refl;
      makes_room = λ s p q l e i. rw e (without_room s p q l e i);
    }
