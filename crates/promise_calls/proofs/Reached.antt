-- After every list of calls the image is that of a well-formed service which stands where the definition stands, so that the next call returns and writes
-- what the definition says: from a well-formed service of which promise_run's `Demands` hold.
use mathlib.Core.Path.{◌≡◌, refl, sym, subst}
use mathlib.Core.List.{List}
use Prim.Native.Nat.{ℕ}
use Rattle.abstract_policy.specs.Policy.{started}
use Rattle.machine_service.specs.declared.Service.{Service}
use Rattle.promise_run.specs.Demands as run
use Rattle.promise_run.specs.Demands.{Equal}
use Rattle.promise_run.specs.Run.{services}
use Rattle.promise_run.specs.Sized.{StartFits}
use Rattle.abstract_calls.specs.ServiceCall.{ByteCall}
use Rattle.abstract_calls.specs.Calls.{returned, buffer_after, images, CallsBytes}
use Rattle.abstract_calls.specs.Definition.{calls_of, defined, return_to, buffer_to}
use Rattle.bytes_service_image.specs.Image.{service_bytes}
use Rattle.promise_invariant.proofs.Good.{Good}
use Rattle.promise_invariant.proofs.Invariant.{start_good, services_good}
use Rattle.abi_functions.specs.Ours.{functions}
use Rattle.promise_calls.proofs.Images.{services_registration, calls_fit, images_are}
use Rattle.promise_calls.proofs.Returns.{returns_are, buffers_are}

-- the service after these calls
abbrev pub reached : Service → List ByteCall → Service
reached s l = services s (calls_of (started s.registration) l)

module _ (s : Service) (good : Good s) (demands : run.Demands s) (l : List ByteCall) (b : CallsBytes l) where
  pub reached_good : Good (reached s l)
  reached_good = services_good (calls_of (started s.registration) l) s (calls_fit (started s.registration) l b) good

  pub reached_equal : Equal (reached s l) (defined s.registration l)
  reached_equal = demands.demand_2 (calls_of (started s.registration) l) (calls_fit (started s.registration) l b)

  pub reached_registration : (reached s l).registration ≡ s.registration
  reached_registration = services_registration (calls_of (started s.registration) l) s

  pub reached_image : service_bytes (reached s l) ≡ images functions (service_bytes s) l
  reached_image = sym (images_are l s (started s.registration) refl b good)

  pub reached_returns : (c : ByteCall) → returned functions (images functions (service_bytes s) l) c ≡ return_to (defined s.registration l) c
  reached_returns c =
      subst (λ (i : List ℕ). returned functions i c ≡ return_to (defined s.registration l) c) reached_image
      (returns_are (reached s l) (defined s.registration l) reached_good reached_equal c)

  pub reached_buffers : (c : ByteCall) → buffer_after functions (images functions (service_bytes s) l) c ≡ buffer_to (defined s.registration l) c
  reached_buffers c =
      subst (λ (i : List ℕ). buffer_after functions i c ≡ buffer_to (defined s.registration l) c) reached_image
      (buffers_are (reached s l) (defined s.registration l) reached_good reached_equal c)

-- a start that is accepted gives such a service

pub fits_good : (ports chargers : ℕ) (s : Service) → StartFits ports chargers s → Good s
fits_good ports chargers s f =
    subst Good (sym f.fresh)
    (start_good f.config ports chargers f.few_ports f.few_chargers f.figures)
