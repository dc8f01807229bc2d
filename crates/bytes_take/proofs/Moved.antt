-- Bytes from byte 17 on moved to the front; then the last are cleared.
-- Assumes nothing.
use mathlib.Core.Path.{◌≡◌, ap, sym, ◌∙◌}
use mathlib.Core.List.{List, [], ◌++◌, append-nil, append_assoc}
use Prim.Native.Nat.{ℕ, ◌+◌, ◌-◌, ◌≤◌}
use native.Mathlib.Omega.{arith}
use lib.ListN.{length, take, drop, replicate, length-append, length-drop, drop_of_length-le}
use lib.Seq.{sets, sets-eq, paste, length-take-le, take_at, take_all}
use borrow.Rule.Slice.PartMut.{put_mid, post_of}

module _ (b : List ℕ) (by : ℕ) (e : length b ≡ 241) (l : by ≤ 224) where
  -- the bytes kept
  abbrev kept : List ℕ
  kept = take 17 b ++ drop (17 + by) b

  kept_length : length kept ≡ 241 - by
  kept_length =
      length-append (take 17 b) (drop (17 + by) b)
      ∙ omega (arith, length-take-le 17 b (omega (arith, e)), length-drop (17 + by) b, e, l)

  -- moved to the front, the last bytes as they were
  copied : paste b 17 (drop (17 + by) b) (length b - (17 + by)) ≡ kept ++ drop (241 - by) b
  copied =
      let n : ℕ = length b - (17 + by) in
      let t : take n (drop (17 + by) b) ≡ drop (17 + by) b = take_all n (drop (17 + by) b) (omega (arith, length-drop (17 + by) b)) in
      let r : 17 + n ≡ 241 - by = omega (arith, e, l) in
      λ i. (take 17 b ++ t i) ++ drop (r i) b

  -- then the last bytes are cleared
  pub moved_cleared : (c f : List ℕ) (n : ℕ) → c ≡ paste b 17 (drop (17 + by) b) (length b - (17 + by)) → f ≡ replicate n 0 → n ≡ by
      → put_mid (241 - by) (241 - (241 - by)) c f ≡ take 17 b ++ (drop (17 + by) b ++ replicate by 0)
  moved_cleared c f n p q r =
      let m : c ≡ kept ++ drop (241 - by) b = p ∙ copied in
      let k = length-append kept (drop (241 - by) b) in
      let z : length c ≡ 241 = ap length m ∙ omega (arith, k, kept_length, length-drop (241 - by) b, e, l) in
      let t : take (241 - by) c ≡ kept = ap (take (241 - by)) m ∙ take_at kept (drop (241 - by) b) (241 - by) kept_length in
      let g : f ≡ replicate by 0 = q ∙ ap (λ (j : ℕ). replicate j 0) r in
      let x : post_of (241 - by) (241 - (241 - by)) c ≡ [] =
      drop_of_length-le (drop (241 - by) c) {i = 241 - (241 - by)} (omega (arith, z, length-drop (241 - by) c)) in
      (λ i. t i ++ (g i ++ x i))
      ∙ (ap (λ (s : List ℕ). kept ++ s) (append-nil (replicate by 0)) ∙ append_assoc (take 17 b) (drop (17 + by) b) (replicate by 0))

-- all of them cleared
pub cleared : (b : List ℕ) (n : ℕ) → length b ≡ 241 → 224 ≤ n → sets b 17 (replicate 224 0) ≡ take 17 b ++ (drop (17 + n) b ++ replicate 224 0)
cleared b n e l =
    let v : 17 + length {A = ℕ} (replicate 224 0) ≤ length b = omega (arith, e) in
    let x : drop (17 + n) b ≡ [] = drop_of_length-le b {i = 17 + n} (omega (arith, e, l)) in
    let y : drop (17 + 224) b ≡ [] = drop_of_length-le b {i = 17 + 224} (omega (arith, e)) in
    sets-eq (replicate 224 0) b 17 v
    ∙ (ap (λ (k : List ℕ). (take 17 b ++ replicate 224 0) ++ k) y
    ∙ (append-nil (take 17 b ++ replicate 224 0) ∙ sym (ap (λ (k : List ℕ). take 17 b ++ (k ++ replicate 224 0)) x)))
