-- Bytes that were written into what follows the first ones.
-- Assumes nothing.
use Rattle.std.proofs.Common.{◌≡◌, ℕ, ◌+◌, ◌≤◌, List, ◌++◌, length, take}
use Rattle.std.proofs.lemmas.List.{take-append-le, drop_at}
use borrow.Rule.Slice.PartMut.{put_mid, post_of}
use lib.Seq.{take-add, length-take-le, take_at}

pub filled : (a k n : ℕ) (m ys : List ℕ) → a ≤ length m → n ≤ length ys → take (a + n) (put_mid a k m ys) ≡ take a m ++ take n ys
filled a k n m ys h l =
    let z : length (take a m) ≡ a = length-take-le a m h in
    rw (take-add a n (put_mid a k m ys), take_at (take a m) (ys ++ post_of a k m) a z, drop_at (take a m) (ys ++ post_of a k m) a z, take-append-le n ys (post_of a k m) l)
