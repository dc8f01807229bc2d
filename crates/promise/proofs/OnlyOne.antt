-- Only one behaviour meets the promise, over traces: both images are where the same lists of calls led.
use mathlib.Core.Path.{◌≡◌, refl, sym, ap, ◌∙◌, subst}
use mathlib.Core.Bool.{Bool, true, false, cond, not}
use mathlib.Core.List.{List, [], ◌∷◌, ◌++◌}
use Prim.Native.Nat.{ℕ, ◌%◌}
use lib.Dec.{eqb}
use lib.ListN.{length}
use borrow.Author.Tests.{eqb-true, eqb-false}
use Rattle.power_policy_interface.specs.Limits.{service_length, follower_length}
use Rattle.abstract_policy.specs.Refusals.{first_refused, start_refusals}
use Rattle.abstract_policy.specs.declared.state.Registration.{Registration}
use Rattle.abstract_desk.specs.Takes.{EachBytes}
use Rattle.abstract_calls.specs.Numbers.{done_number, refused_number}
use Rattle.abstract_calls.specs.Called.{Called}
use Rattle.abstract_calls.specs.ServiceCall.{ByteCall}
use Rattle.abstract_calls.specs.Calls as called
use Rattle.abstract_calls.specs.Calls.{CallBytes, CallsBytes, image_after, returned, buffer_after, images, desk_after, desk_returned, desk_buffer_after, DeskBytes}
use Rattle.abstract_calls.specs.DeskCall.{DeskCall, desk_call}
use Rattle.abstract_calls.specs.Functions.{Functions, Arguments, config_of}
use Rattle.abstract_calls.proofs.Lists.{images_more, bytes_more, desks_more, desk_bytes_more}
use Rattle.abstract_calls.proofs.Results.{refused_low, done_low}
use Rattle.promise_calls.proofs.Low.{not_two}
use Rattle.promise.specs.Promise.{done_or, start_refused, registers, Serves, Promise}
use Rattle.promise.specs.Same.{Call, start, call, follower_start, desk, OfBytes, seen, trace, Same}
use Rattle.promise.proofs.Starts.{configured}

done_zero : (n : ℕ) → done_or n ≡ done_number → n ≡ 0
done_zero n e = go (eqb n 0) refl e
  where
    go : (t : Bool) → eqb n 0 ≡ t → cond t done_number (refused_number n) ≡ done_number → n ≡ 0
    go true h q = eqb-true n 0 h
    go false h q = absurd (not_two (refused_low n) (ap (λ (x : ℕ). x % 256) q ∙ done_low) refl)

zero_done : (n : ℕ) → n ≡ 0 → done_or n ≡ done_number
zero_done n e = ap done_or e

two : (n m : ℕ) (b c : List ℕ) (s t : List Called) → n ≡ m → b ≡ c → s ≡ t → ◌≡◌ {A = List Called} (seen n b ∷ s) (seen m c ∷ t)
two n m b c s t p q r = cc

module _ (f g : Functions) (p : Promise f) (q : Promise g) where
  -- where the two images stand
  record Alike (b c : List ℕ) : Type 0 where
    image-f : List ℕ
    image-g : List ℕ
    registered : Registration
    serves-f : Serves f image-f registered
    serves-g : Serves g image-g registered
    calls : List ByteCall
    bytes : CallsBytes calls
    at_f : images f image-f calls ≡ b
    at_g : images g image-g calls ≡ c

  record AlikeDesk (x y : List ℕ) : Type 0 where
    lent-f : List ℕ
    lent-g : List ℕ
    size-f : length lent-f ≡ follower_length
    size-g : length lent-g ≡ follower_length
    calls : List DeskCall
    each : DeskBytes calls
    at_f : called.desk f lent-f calls ≡ x
    at_g : called.desk g lent-g calls ≡ y

  -- starts

  fresh : (b c : List ℕ) (a : Arguments) → start_refused b a ≡ 0 → start_refused c a ≡ 0 → Alike (f.start b a).bytes (g.start c a).bytes
  fresh b c a h k =
      let o = configured b a.ports a.chargers (config_of a) h in
      record {
        image-f = (f.start b a).bytes;
        image-g = (g.start c a).bytes;
        registered = registers a o.0;
        serves-f = (p.start b a).serves h o.0 o.1;
        serves-g = (q.start c a).serves k o.0 o.1;
        calls = [];
        bytes = tt;
        at_f = refl;
        at_g = refl;
      }

  fresh_desk : (x y : List ℕ) → length x ≡ follower_length → length y ≡ follower_length → AlikeDesk (f.follower_start x).bytes (g.follower_start y).bytes
  fresh_desk x y h k =
      record { lent-f = x; lent-g = y; size-f = h; size-g = k; calls = []; each = tt; at_f = refl; at_g = refl }

  module _ (b c : List ℕ) (s : Alike b c) where
    length-f : length b ≡ service_length
    length-f = ap length (sym s.at_f) ∙ s.serves-f.size s.calls s.bytes

    length-g : length c ≡ service_length
    length-g = ap length (sym s.at_g) ∙ s.serves-g.size s.calls s.bytes

    same-refusal : (a : Arguments) → start_refused b a ≡ start_refused c a
    same-refusal a =
        ap (λ (n : ℕ). first_refused (start_refusals (config_of a) a.ports a.chargers ++ ((not (eqb n service_length), 21) ∷ []))) (length-f ∙ sym length-g)

    start_number : (a : Arguments) → (f.start b a).number ≡ (g.start c a).number
    start_number a = (p.start b a).number ∙ (ap done_or (same-refusal a) ∙ sym (q.start c a).number)

    start-alike : (a : Arguments) → Alike (f.start b a).bytes (g.start c a).bytes
    start-alike a = go (eqb (start_refused b a) 0) refl
      where
        go : (t : Bool) → eqb (start_refused b a) 0 ≡ t → Alike (f.start b a).bytes (g.start c a).bytes
        go true e = fresh b c a (eqb-true (start_refused b a) 0 e) (sym (same-refusal a) ∙ eqb-true (start_refused b a) 0 e)
        go false e =
            subst (λ (z : List ℕ). Alike (f.start b a).bytes z)
            (sym ((q.start c a).turned_back (λ h. eqb-false (start_refused b a) 0 e (same-refusal a ∙ h))))
            (subst (λ (z : List ℕ). Alike z c) (sym ((p.start b a).turned_back (eqb-false (start_refused b a) 0 e))) s)

    call-number : (d : ByteCall) → returned f b d ≡ returned g c d
    call-number d =
        ap (λ (i : List ℕ). returned f i d) (sym s.at_f) ∙ (s.serves-f.returns s.calls d s.bytes
        ∙ (sym (s.serves-g.returns s.calls d s.bytes) ∙ ap (λ (i : List ℕ). returned g i d) s.at_g))

    call_buffer : (d : ByteCall) → buffer_after f b d ≡ buffer_after g c d
    call_buffer d =
        ap (λ (i : List ℕ). buffer_after f i d) (sym s.at_f) ∙ (s.serves-f.buffers s.calls d s.bytes
        ∙ (sym (s.serves-g.buffers s.calls d s.bytes) ∙ ap (λ (i : List ℕ). buffer_after g i d) s.at_g))

    call-alike : (d : ByteCall) → CallBytes d → Alike (image_after f b d) (image_after g c d)
    call-alike d h = record {
      image-f = s.image-f;
      image-g = s.image-g;
      registered = s.registered;
      serves-f = s.serves-f;
      serves-g = s.serves-g;
      calls = s.calls ++ (d ∷ []);
      bytes = bytes_more s.calls d s.bytes h;
      at_f = images_more f s.calls s.image-f d ∙ ap (λ (i : List ℕ). image_after f i d) s.at_f;
      at_g = images_more g s.calls s.image-g d ∙ ap (λ (i : List ℕ). image_after g i d) s.at_g;
    }

  module _ (x y : List ℕ) (s : AlikeDesk x y) where
    size-x : length x ≡ follower_length
    size-x = ap length (sym s.at_f) ∙ ((p.follower_start s.lent-f).follows s.size-f).size s.calls s.each

    size-y : length y ≡ follower_length
    size-y = ap length (sym s.at_g) ∙ ((q.follower_start s.lent-g).follows s.size-g).size s.calls s.each

    desk-start : (f.follower_start x).number ≡ (g.follower_start y).number
    desk-start =
        (p.follower_start x).number ∙ (ap (λ (n : ℕ). cond {A = ℕ} (eqb n follower_length) done_number (refused_number 21)) (size-x ∙ sym size-y) ∙ sym (q.follower_start y).number)

    desk-number : (d : DeskCall) → desk_returned f x d ≡ desk_returned g y d
    desk-number d =
        ap (λ (i : List ℕ). desk_returned f i d) (sym s.at_f) ∙ (((p.follower_start s.lent-f).follows s.size-f).returns s.calls d s.each
        ∙ (sym (((q.follower_start s.lent-g).follows s.size-g).returns s.calls d s.each) ∙ ap (λ (i : List ℕ). desk_returned g i d) s.at_g))

    desk-buffer : (d : DeskCall) → desk_buffer_after f x d ≡ desk_buffer_after g y d
    desk-buffer d =
        ap (λ (i : List ℕ). desk_buffer_after f i d) (sym s.at_f) ∙ (((p.follower_start s.lent-f).follows s.size-f).buffers s.calls d s.each
        ∙ (sym (((q.follower_start s.lent-g).follows s.size-g).buffers s.calls d s.each) ∙ ap (λ (i : List ℕ). desk_buffer_after g i d) s.at_g))

    desk-alike : (d : DeskCall) → EachBytes (desk_call d).packets → AlikeDesk (desk_after f x d) (desk_after g y d)
    desk-alike d h = record {
      lent-f = s.lent-f;
      lent-g = s.lent-g;
      size-f = s.size-f;
      size-g = s.size-g;
      calls = s.calls ++ (d ∷ []);
      each = desk_bytes_more s.calls d s.each h;
      at_f = desks_more f s.calls (f.follower_start s.lent-f).bytes d ∙ ap (λ (i : List ℕ). desk_after f i d) s.at_f;
      at_g = desks_more g s.calls (g.follower_start s.lent-g).bytes d ∙ ap (λ (i : List ℕ). desk_after g i d) s.at_g;
    }

  alike : (l : List Call) (b c x y : List ℕ) → OfBytes l → Alike b c → AlikeDesk x y → trace f b x l ≡ trace g c y l
  alike [] b c x y h s t = refl
  alike (start a ∷ l) b c x y h s t =
      two _ _ _ _ _ _ (start_number b c s a) refl (alike l (f.start b a).bytes (g.start c a).bytes x y h (start-alike b c s a) t)
  alike (call d ∷ l) b c x y h s t =
      two _ _ _ _ _ _ (call-number b c s d) (call_buffer b c s d) (alike l (image_after f b d) (image_after g c d) x y h.1 (call-alike b c s d h.0) t)
  alike (follower_start ∷ l) b c x y h s t =
      two _ _ _ _ _ _ (desk-start x y t) refl
      (alike l b c (f.follower_start x).bytes (g.follower_start y).bytes h s (fresh_desk x y (size-x x y t) (size-y x y t)))
  alike (desk d ∷ l) b c x y h s t =
      two _ _ _ _ _ _ (desk-number x y t d) (desk-buffer x y t d) (alike l b c (desk_after f x d) (desk_after g y d) h.1 s (desk-alike x y t d h.0))

  sized : (x : List ℕ) → (f.follower_start x).number ≡ done_number → length x ≡ follower_length
  sized x e = go (eqb (length x) follower_length) refl (sym (p.follower_start x).number ∙ e)
    where
      go : (t : Bool) → eqb (length x) follower_length ≡ t → cond t done_number (refused_number 21) ≡ done_number → length x ≡ follower_length
      go true h k = eqb-true (length x) follower_length h
      go false h k = absurd (not_two (refused_low 21) (ap (λ (n : ℕ). n % 256) k ∙ done_low) refl)

  unsized : (x : List ℕ) → ((f.follower_start x).number ≡ done_number → ⊥) → eqb (length x) follower_length ≡ false
  unsized x k = go (eqb (length x) follower_length) (p.follower_start x).number
    where
      go : (t : Bool) → (f.follower_start x).number ≡ cond t done_number (refused_number 21) → t ≡ false
      go true e = absurd (k e)
      go false e = refl

  pub only_one : Same f g
  only_one = record {
    start = λ image a. (p.start image a).number ∙ sym (q.start image a).number;
    start_refused = λ image a k.
        (p.start image a).turned_back (λ e. k ((p.start image a).number ∙ zero_done (start_refused image a) e))
        ∙ sym ((q.start image a).turned_back (λ e. k ((p.start image a).number ∙ zero_done (start_refused image a) e)));
    follower_start_refused = λ x k. (p.follower_start x).turned_back (unsized x k) ∙ sym ((q.follower_start x).turned_back (unsized x k));
    follower_start = λ x. (p.follower_start x).number ∙ sym (q.follower_start x).number;
    traces = λ image x a l h e k.
        let r = done_zero (start_refused image a) (sym (p.start image a).number ∙ e) in
        alike l (f.start image a).bytes (g.start image a).bytes (f.follower_start x).bytes (g.follower_start x).bytes h
        (fresh image image a r r) (fresh_desk x x (sized x k) (sized x k));
    service_other = λ b c e.
        let y = p.other_length.service b c e in
        let z = q.other_length.service b c e in
        (y.0 ∙ sym z.0, (y.1 ∙ sym z.1, y.2 ∙ sym z.2));
    follower_other = λ b c e.
        let y = p.other_length.desk b c e in
        let z = q.other_length.desk b c e in
        (y.0 ∙ sym z.0, (y.1 ∙ sym z.1, y.2 ∙ sym z.2));
  }
