-- The whole claim, put together.
use mathlib.Core.Path.{refl}
use Rattle.interface_display.proofs.Set.{set_laws}
use Rattle.power_policy_service.proofs.PairOrder.{pair_order}
use Rattle.power_policy_service.proofs.TypeC.{rust_type_c, default_type_c}
use Rattle.abstract_policy.proofs.First.{rank_size, base_lowest}
use Rattle.abstract_page.proofs.Same.{page_laws}
use Rattle.promise.specs.Claim.{Claim}
use Rattle.promise.proofs.LaidOut.{laid_out}
use Rattle.promise.proofs.Meant.{accepted_means}
use Rattle.promise.proofs.OnlyOne.{only_one}
use Rattle.promise.proofs.Pages.{reached_fit}
use Rattle.promise.proofs.Promised.{promised}
use Rattle.promise.proofs.Refuted.{testers}

pub claimed : Claim
claimed = record {
  accepted = refl;
  promised = promised;
  only_one = only_one;
  testers = testers;
  meaning = accepted_means;
  rank_size = rank_size;
  lowest = base_lowest;
  pages = page_laws;
  pages_fit = reached_fit;
  documents = record { set = set_laws; order = pair_order; type_c = rust_type_c; default_type_c = default_type_c };
  layout = laid_out;
}
