-- A page in a buffer: it is turned back by 34 alone, which leaves the buffer; else the page stands in the first 246 bytes, and is read there.
use Rattle.std.specs.Prelude.{Err, Ok}
use mathlib.Core.Bool.{Bool, true, false, cond}
use mathlib.Core.List.{List, [], ◌∷◌}
use mathlib.Core.Path.{◌≡◌, refl, sym, ap, ◌∙◌}
use Prim.Native.Nat.{ℕ, ◌+◌, ◌%◌, ◌≤◌}
use native.Mathlib.Omega.{arith}
use lib.Dec.{ltb}
use lib.ListN.{length, take, drop}
use lib.Seq.{sets, sets-eq, take_at}
use borrow.Author.Tests.{le-ltb}
use Rattle.power_policy_interface.specs.Limits.{page_length}
use Rattle.abstract_policy.proofs.First.{first}
use Rattle.abstract_page.specs.Page.{Entry, lines}
use Rattle.abstract_page.specs.ReadPage.{read_page}
use Rattle.abstract_calls.specs.Definition.{Refuses}
use Rattle.abstract_calls.specs.DeskCall.{page_conditions}
use Rattle.abstract_calls.specs.Lent.{written_as, page_call}
use Rattle.abstract_calls.proofs.Results.{written_low}

module _ (page buffer : List ℕ) where
  pub page_refuses : Refuses (page_conditions buffer) (page_call page buffer).number
  page_refuses = go (ltb (length buffer) page_length)
    where
      go : (t : Bool) → Refuses ((t, 34) ∷ []) (written_as (cond t (Err 34) (Ok (length page))))
      go true = record { first = first ((true, 34) ∷ []) refl; turned_back = λ d. refl; accepted = λ z. absurd (omega (arith, z)) }
      go false = record {
        first = first ((false, 34) ∷ []) refl;
        turned_back = λ d. absurd (d refl);
        accepted = λ z k. let w : ◌≡◌ {A = ℕ} 3 0 = sym (written_low (length page)) ∙ k in omega (arith, w);
      }

  pub page_back : (page_call page buffer).number % 256 ≡ 0 → (page_call page buffer).bytes ≡ buffer
  page_back = go (ltb (length buffer) page_length)
    where
      go : (t : Bool) → written_as (cond t (Err 34) (Ok (length page))) % 256 ≡ 0 → cond t buffer (sets buffer 0 page) ≡ buffer
      go true k = refl
      go false k = absurd (let w : ◌≡◌ {A = ℕ} 3 0 = sym (written_low (length page)) ∙ k in omega (arith, w))

-- what is read from the front of the buffer
pub page_said : (l : List Entry) → length (lines l) ≡ page_length → read_page (lines l) ≡ l → (buffer : List ℕ) → page_length ≤ length buffer
    → read_page (take page_length (page_call (lines l) buffer).bytes) ≡ l
page_said l e r buffer h =
    let k : 0 + length (lines l) ≤ length buffer = omega arith in
    rw (le-ltb (length buffer) page_length h, sets-eq (lines l) buffer 0 k)
    (ap read_page (take_at (lines l) (drop (0 + length (lines l)) buffer) page_length e) ∙ r)
