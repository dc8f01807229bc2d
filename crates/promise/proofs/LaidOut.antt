-- The layout: what each codec's own laws say, put together.
use Rattle.std.specs.Prelude.{None, Some}
use mathlib.Core.Path.{◌≡◌, refl, sym, ap, ◌∙◌}
use mathlib.Core.List.{List}
use Prim.Native.Nat.{ℕ}
use Rattle.interface_records.specs.Row.{AllBytes}
use Rattle.interface_records.specs.Charger.{charger_from}
use Rattle.interface_records.specs.Psu.{psu_from}
use Rattle.interface_records.proofs.OneRecord.{psu_read_write, psu_write_read, charger_read_write, charger_write_read}
use Rattle.power_policy_service.specs.declared.config.Config.{Config}
use Rattle.machine_service.specs.Service.{fresh_service}
use Rattle.machine_service.specs.declared.Service.{Service}
use Rattle.wire.specs.Read.{read_packet}
use Rattle.wire.proofs.Lengths.{packet_length}
use Rattle.wire.proofs.OneNumber as number
use Rattle.wire.proofs.OnePacket.{read_write, write_read}
use Rattle.desk_follower.specs.declared.Follower.{Follower}
use Rattle.desk_report.proofs.Whole.{run_is_follow, sheet_tells, sheet_shows_lem}
use Rattle.promise_edges.specs.Edges.{edges}
use Rattle.promise_run.specs.Demands.{Equal}
use Rattle.abstract_calls.specs.Called.{refused_call}
use Rattle.abstract_calls.specs.Numbers.{refused_number}
use Rattle.abstract_calls.specs.ServiceCall.{ByteCall}
use Rattle.abstract_calls.specs.Calls.{CallsBytes, images, packets_of}
use Rattle.abstract_calls.specs.Functions.{Arguments, config_of}
use Rattle.abstract_calls.specs.Definition.{defined}
use Rattle.abstract_calls.proofs.OneToOne.{one_to_one}
use Rattle.bytes_service_image.specs.Image.{service_from}
use Rattle.bytes_service_image.proofs.Service.{service_read_write, service_write_read, service_read_typed}
use Rattle.bytes_follower_image.specs.Image.{follower_from}
use Rattle.bytes_follower_image.proofs.OneImage.{follower_read_write, follower_write_read, follower_read_fits}
use Rattle.promise_invariant.proofs.Good.{Good}
use Rattle.promise_invariant.proofs.Bound.{good_orders, good_rest}
use Rattle.promise.proofs.AnyBytes.{desk_refuses, desk_turned_back, readers_on}
use Rattle.promise.proofs.Pages.{page_is, page_says}
use Rattle.bytes_calls.specs.Calls.{taken_call}
use Rattle.abi_functions.specs.Ours.{functions}
use Rattle.promise_calls.proofs.Takes.{each_keeps, desk_read}
use Rattle.promise_calls.proofs.Images.{image_read}
use Rattle.promise_calls.proofs.First.{call_refuses}
use Rattle.promise_calls.proofs.Turned.{call_back}
use Rattle.promise_calls.proofs.Reached.{reached, reached_good, reached_equal, reached_image}
use Rattle.promise.specs.Layout.{Layout}
use Rattle.promise.specs.Promise.{start_refused, registers}
use Rattle.promise.proofs.Promised.{started_good, started_demands}
use Rattle.promise.proofs.Starts.{start_leaves}

held : (image : List ℕ) (a : Arguments) → start_refused image a ≡ 0 → (c : Config) → config_of a ≡ Some c → (l : List ByteCall) → CallsBytes l →
    (s : Service) × (service_from (images functions (functions.start image a).bytes l) ≡ Some s) × Equal s (defined (registers a c) l)
held image a q c e l b =
    let z = start_leaves image a.ports a.chargers (config_of a) c e q in
    let s : Service = fresh_service c a.ports a.chargers in
    let good = started_good a s z.service in
    let demands = started_demands a s z.service in (
      reached s l,
      ap (λ (i : List ℕ). service_from (images functions i l)) z.bytes
          ∙ (ap service_from (sym (reached_image s good demands l b)) ∙ image_read (reached s l) (reached_good s good demands l b)),
      reached_equal s good demands l b,
    )

accepted_good : (b : List ℕ) (s : Service) → AllBytes b → service_from b ≡ Some s → Good s
accepted_good b s h e =
    let z = service_read_typed b s h e in
    record { fits = z.1; typed = z.0 }

no_follower : (b y : List ℕ) → follower_from b ≡ None →
    (functions.take b y ≡ refused_call 21 b)
    × ((functions.shown b ≡ refused_number 21)
    × ((functions.consumer b ≡ refused_number 21) × ((functions.tracked b ≡ refused_number 21) × (functions.write_page b y ≡ refused_call 21 y))))
no_follower b y e = rw e (refl, (refl, (refl, (refl, refl))))

takes_on_lem : (b y : List ℕ) (f : Follower) → follower_from b ≡ Some f → functions.take b y ≡ taken_call b f (read_packet y)
takes_on_lem b y f e = rw e refl

pub laid_out : Layout
laid_out = record {
  service_image = λ b s h. (
    λ e. (service_write_read b s h e, service_read_typed b s h e),
    λ z. ap service_from (sym z.0) ∙ service_read_write s z.1.0 z.1.1,
  );
  follower_image = λ b f h. (
    λ e. (follower_write_read b f h e, follower_read_fits b f h e),
    λ z. ap follower_from (sym z.0) ∙ follower_read_write f z.1,
  );
  holds = held;
  follower_holds = λ x l e a. desk_read x e l (each_keeps (packets_of l) a);
  bounded = λ b s h e.
      let z = accepted_good b s h e in
      (good_orders s z, good_rest s z);
  no_follower = no_follower;
  takes_on_lem = takes_on_lem;
  desk_refuses = desk_refuses;
  desk_turned_back = desk_turned_back;
  readers_on = λ b f h e. readers_on b f e (follower_read_fits b f h e);
  page_on = λ b buffer f h e. page_is b f e (follower_read_fits b f h e) buffer;
  page_read = λ b f h e. page_says b f e (follower_read_fits b f h e);
  refuses = call_refuses;
  turned_back = call_back;
  packet = λ y p h. (
    λ e. let w = write_read y p h e in (w.bytes, w.fits),
    λ z. ap read_packet z.0 ∙ read_write p z.1,
  );
  packet_length = packet_length;
  number_back = number.read_write;
  number_bytes = number.write_read;
  psu_record = λ b s h. (psu_write_read b s h, λ e. ap psu_from e ∙ psu_read_write s);
  charger_record = λ b s h. (charger_write_read b s h, λ e. ap charger_from e ∙ charger_read_write s);
  results = one_to_one;
  follow_writes = run_is_follow;
  sheet_tells = sheet_tells;
  sheet_shows_lem = sheet_shows_lem;
  edges = edges;
}
