-- A well-formed service has one image, and the bytes that are read are such an image: each group has one encoding, and the groups stand at fixed places.
-- Assumes nothing.
use Rattle.std.specs.Prelude.{None, Option, Some}
use mathlib.Core.Path.{◌≡◌, refl, ap, sym, subst, ◌∙◌}
use mathlib.Core.Bool.{Bool, true, false, cond, ◌&&◌}
use mathlib.Core.List.{List, [], ◌∷◌, ◌++◌}
use Prim.Native.Nat.{ℕ, ◌≤◌}
use native.Mathlib.Omega.{arith}
use lib.Dec.{eqb, leb}
use lib.ListN.{length, get_or}
use borrow.Author.Tests.{eqb-true, leb-true}
use Rattle.power_policy_interface.specs.Limits.{service_length}
use Rattle.interface_records.specs.Row.{AllBytes}
use Rattle.abstract_policy.specs.State.{display_of}
use Rattle.machine_state.specs.declared.memory.Notices.{Notices}
use Rattle.machine_service.specs.declared.Service.{Service}
use Rattle.std.proofs.lemmas.Bool.{and_parts}
use Rattle.bytes_groups.specs.Quad.{quad_at, quad_bytes, number_quad, number_from}
use Rattle.bytes_groups.specs.Shown.{shown_at, shown_bytes, display_shown}
use Rattle.bytes_groups.specs.Tagged.{tagged_at, tagged_bytes, consumer_tagged, optional_from}
use Rattle.bytes_groups.specs.declared.quad.Quad.{Quad}
use Rattle.bytes_groups.specs.declared.shown.Shown.{Shown}
use Rattle.abstract_policy.specs.declared.state.InternalState.{InternalState}
use Rattle.abstract_policy.specs.declared.state.Registration.{Registration}
use Rattle.interface_display.specs.declared.AvailableConsumer.{AvailableConsumer}
use Rattle.machine_state.specs.declared.memory.Disconnected.{Disconnected}
use Rattle.machine_state.specs.declared.memory.ProviderNotice.{ProviderNotice}
use Rattle.machine_state.specs.declared.phase.Phase.{Phase}
use Rattle.power_policy_interface.specs.declared.service.UnconstrainedState.{UnconstrainedState}
use Rattle.bytes_groups.specs.declared.tagged.Tagged.{Tagged}
use Rattle.bytes_groups.proofs.Places.{Below, none, one, both}
use Rattle.interface_records.proofs.OneRecord.{gets_all}
use Rattle.bytes_groups.proofs.Quads.{quad_at_lem, quad_bytes_lem, number_back, number_written, number_within, number_bytes}
use Rattle.bytes_groups.proofs.Consumers.{Optional, tagged_at_lem, tagged_bytes_lem, optional_back, optional_bytes, optional_read}
use Rattle.bytes_groups.proofs.Displays.{shown_at_lem, shown_bytes_lem, display_bytes_lem}
use Rattle.bytes_service_groups.specs.Notices.{notices_bytes, notices_from, triple_at, triple_bytes, provider_tagged, disconnected_triple, unconstrained_triple, provider_read, disconnected_read, unconstrained_read, notices_with}
use Rattle.bytes_service_groups.specs.Phase.{standing_at, standing_bytes, standing, phase_from}
use Rattle.bytes_service_groups.specs.Registration.{head_bytes, registered_at, registered_bytes, registered, registration_from}
use Rattle.power_policy_service.specs.Provider.{power_byte}
use Rattle.bytes_service_groups.specs.State.{held_bytes, state_from}
use Rattle.bytes_service_groups.specs.declared.notices.Triple.{Triple}
use Rattle.bytes_service_groups.specs.declared.phase.Standing.{Standing}
use Rattle.bytes_service_groups.specs.declared.registration.Registered.{Registered}
use Rattle.bytes_service_image.specs.Image.{service_bytes, service_with, parts_from, checked, service_from}
use Rattle.bytes_service_image.specs.Typed.{Typed, ProviderTyped, ConsumerTyped}
use Rattle.bytes_service_image.specs.WellFormed.{registration_fits, state_fits, phase_fits, number_fits, orders_fit, notices_fit, provider_fits, disconnected_fits, consumer_fits, unconstrained_fits, tells, well_formed}
use Rattle.bytes_service_image.proofs.Fits.{consumer_typed, consumer_within}
use Rattle.bytes_service_image.proofs.Registrations as registrations
use Rattle.bytes_service_image.proofs.States as states
use Rattle.bytes_service_image.proofs.Phases as phases
use Rattle.bytes_service_image.proofs.Told as told
use Rattle.bytes_service_image.proofs.Orders.{orders_lt}

-- the parts of well-formedness

pub record Parts (s : Service) : Type 0 where
  pub registration : registration_fits s.registration ≡ true
  pub ports : s.registration.ports ≤ 16
  pub chargers : s.registration.chargers ≤ 8
  pub state : state_fits s.registration.ports s.memory.state ≡ true
  pub phase : phase_fits s.registration.ports s.registration.chargers s.phase ≡ true
  pub orders : orders_fit s.registration.chargers s.phase s.orders ≡ true
  pub notices : notices_fit s.registration.ports s.memory.notices ≡ true

pub parts : (s : Service) → well_formed s ≡ true → Parts s
unfolding well_formed
parts s e =
    let g = registration_fits s.registration in
    let t = state_fits s.registration.ports s.memory.state in
    let p = phase_fits s.registration.ports s.registration.chargers s.phase in
    let n = number_fits s.phase s.number in
    let o = orders_fit s.registration.chargers s.phase s.orders in
    let k = notices_fit s.registration.ports s.memory.notices in
    let w = tells s.phase s.memory.notices in
    let x = (and_parts g (t && (p && (n && (o && (k && w))))) e).0 in
    let r = (and_parts g (t && (p && (n && (o && (k && w))))) e).1 in
    let q = (and_parts t (p && (n && (o && (k && w)))) r).1 in
    let v = (and_parts n (o && (k && w)) (and_parts p (n && (o && (k && w))) q).1).1 in
    record {
      registration = x;
      ports = leb-true s.registration.ports 16 (and_parts (leb s.registration.ports 16) (leb s.registration.chargers 8) x).0;
      chargers = leb-true s.registration.chargers 8 (and_parts (leb s.registration.ports 16) (leb s.registration.chargers 8) x).1;
      state = (and_parts t (p && (n && (o && (k && w)))) r).0;
      phase = (and_parts p (n && (o && (k && w))) q).0;
      orders = (and_parts o (k && w) v).0;
      notices = (and_parts k w (and_parts o (k && w) v).1).0;
    }

-- the notices

record NoticeParts (ports : ℕ) (n : Notices) : Type 0 where
  provider : provider_fits ports n.provider ≡ true
  disconnected : disconnected_fits ports n.disconnected ≡ true
  connected : consumer_fits ports n.connected ≡ true
  unconstrained : unconstrained_fits ports n.unconstrained ≡ true

notice_parts : (ports : ℕ) (n : Notices) → notices_fit ports n ≡ true → NoticeParts ports n
notice_parts ports n e =
    let p = provider_fits ports n.provider in
    let d = disconnected_fits ports n.disconnected in
    let c = consumer_fits ports n.connected in
    let u = unconstrained_fits ports n.unconstrained in
    let r = (and_parts p (d && (c && u)) e).1 in
    let q = (and_parts d (c && u) r).1 in
    record {
      provider = (and_parts p (d && (c && u)) e).0;
      disconnected = (and_parts d (c && u) r).0;
      connected = (and_parts c u q).0;
      unconstrained = (and_parts c u q).1;
    }

-- every element is a byte

head_bytes_lem : (s : Service) → Typed s → Parts s → Below (head_bytes s.registration s.number)
head_bytes_lem s t w =
    one (omega arith)
    (both (registrations.registered_bytes_lem (registered s.registration) (registrations.registration_bytes s.registration w.registration t.config))
    (quad_bytes_lem (number_quad s.number) (number_bytes s.number t.number)))

held_bytes_lem : (s : Service) → Typed s → Parts s → Below (held_bytes s.memory.state s.orders)
held_bytes_lem s t w =
    both (shown_bytes_lem (display_shown (display_of s.memory.state)) (display_bytes_lem (display_of s.memory.state) (states.state_within s.registration.ports s.memory.state w.ports w.state t.consumer)))
    (one (states.power_lt s.memory.state.current_provider_state) (one (orders_lt s.registration.chargers s.phase s.orders s.registration.ports w.chargers w.phase w.orders) none))

notices_bytes_lem : (ports : ℕ) (n : Notices) → ports ≤ 16 → NoticeParts ports n → ProviderTyped n.provider → ConsumerTyped n.connected
    → Below (notices_bytes n)
notices_bytes_lem ports n h w p c =
    both (tagged_bytes_lem (provider_tagged n.provider) (told.provider_notice_bytes ports n.provider h w.provider p))
    (both (told.triple_bytes_lem (disconnected_triple n.disconnected) (told.disconnected_bytes ports n.disconnected h w.disconnected))
    (both (tagged_bytes_lem (consumer_tagged n.connected) (optional_bytes n.connected (consumer_within ports n.connected h w.connected c)))
    (told.triple_bytes_lem (unconstrained_triple n.unconstrained) (told.unconstrained_bytes_lem ports n.unconstrained h w.unconstrained))))

pub service_bytes_lem : (s : Service) → Typed s → well_formed s ≡ true → AllBytes (service_bytes s)
unfolding service_bytes
service_bytes_lem s t e =
    let w = parts s e in
    let h = head_bytes_lem s t w in
    let d = held_bytes_lem s t w in
    let p = phases.standing_bytes_lem (standing s.phase) (phases.phase_bytes_lem s.registration.ports s.registration.chargers s.phase w.ports w.chargers w.phase t.phase) in
    let n = notices_bytes_lem s.registration.ports s.memory.notices w.ports (notice_parts s.registration.ports s.memory.notices w.notices) t.provider t.connected in
    (both h (both d (both p n))).bytes

-- reading what was written

notices_back : (n : Notices)
    → notices_with (provider_read (provider_tagged n.provider)) (disconnected_read (disconnected_triple n.disconnected)) (optional_from (consumer_tagged n.connected))
    (unconstrained_read (unconstrained_triple n.unconstrained))
    ≡ Some n
notices_back n =
    rw (
      told.provider_notice_back n.provider,
      told.disconnected_back n.disconnected,
      optional_back n.connected,
      told.unconstrained_back n.unconstrained,
    )

parts_back : (s : Service) → Parts s
    → service_with (registration_from (registered s.registration)) (number_from (number_quad s.number))
    (state_from (display_shown (display_of s.memory.state)) (power_byte s.memory.state.current_provider_state))
    s.orders
    (phase_from (standing s.phase))
    (notices_with (provider_read (provider_tagged s.memory.notices.provider)) (disconnected_read (disconnected_triple s.memory.notices.disconnected)) (optional_from (consumer_tagged s.memory.notices.connected))
    (unconstrained_read (unconstrained_triple s.memory.notices.unconstrained)))
    ≡ Some s
parts_back s w =
    λ i. service_with (registrations.registration_back s.registration i) (number_back s.number i) (states.state_back s.memory.state i) s.orders (phases.phase_back s.registration.ports s.registration.chargers s.phase w.chargers w.phase i) (notices_back s.memory.notices i)

pub service_read_write : (s : Service) → Typed s → well_formed s ≡ true → service_from (service_bytes s) ≡ Some s
unfolding service_from service_bytes
service_read_write s t e =
    ap checked (parts_back s (parts s e)) ∙ ap (λ (b : Bool). cond b (Some s) None) e

-- what the bytes of an image say, group by group

record Told (b : List ℕ) (n : Notices) : Type 0 where
  provider : told.Provider (tagged_at b 47) n.provider
  disconnected : triple_at b 54 ≡ disconnected_triple n.disconnected
  connected : Optional (tagged_at b 57) n.connected
  unconstrained : triple_at b 64 ≡ unconstrained_triple n.unconstrained

notices_read_lem : (b : List ℕ) (n : Notices) (p : Option (Option ProviderNotice)) (d : Option (Option Disconnected)) (c : Option (Option AvailableConsumer)) (u : Option (Option UnconstrainedState))
    → AllBytes b → provider_read (tagged_at b 47) ≡ p → disconnected_read (triple_at b 54) ≡ d → optional_from (tagged_at b 57) ≡ c
    → unconstrained_read (triple_at b 64) ≡ u → notices_with p d c u ≡ Some n → Told b n
notices_read_lem b n None d c u h x y z w q = absurd (cc)
notices_read_lem b n (Some p) None c u h x y z w q = absurd (cc)
notices_read_lem b n (Some p) (Some d) None u h x y z w q =
    absurd (cc)
notices_read_lem b n (Some p) (Some d) (Some c) None h x y z w q =
    absurd (cc)
notices_read_lem b n (Some p) (Some d) (Some c) (Some u) h x y z w q =
    let k : record { provider = p; disconnected = d; connected = c; unconstrained = u } ≡ n = cc in
    subst (λ (v : Notices). Told b v) k
    (record {
      provider = told.provider_notice_read (tagged_at b 47) p (tagged_at_lem b 47 h) x;
      disconnected = told.disconnected_written (triple_at b 54) d y;
      connected = optional_read (tagged_at b 57) c (tagged_at_lem b 57 h) z;
      unconstrained = told.unconstrained_written (triple_at b 64) u w;
    })

notices_said : (b : List ℕ) (n : Notices) → AllBytes b → notices_from b ≡ Some n → Told b n
notices_said b n h q =
    notices_read_lem b n (provider_read (tagged_at b 47)) (disconnected_read (triple_at b 54)) (optional_from (tagged_at b 57)) (unconstrained_read (triple_at b 64)) h
    refl
    refl
    refl
    refl
    q

record Said (b : List ℕ) (s : Service) : Type 0 where
  registration : registrations.Read (registered_at b 1) s.registration
  number : number_from (quad_at b 20) ≡ s.number
  state : states.Read (shown_at b 24) (get_or b 35 0) s.memory.state
  orders : get_or b 36 0 ≡ s.orders
  phase : phases.Read (standing_at b 37) s.phase
  notices : Told b s.memory.notices

groups_read : (b : List ℕ) (s : Service) (g : Option Registration) (t : Option InternalState) (p : Option Phase) (n : Option Notices) → AllBytes b
    → registration_from (registered_at b 1) ≡ g → state_from (shown_at b 24) (get_or b 35 0) ≡ t → phase_from (standing_at b 37) ≡ p → notices_from b ≡ n
    → service_with g (number_from (quad_at b 20)) t (get_or b 36 0) p n ≡ Some s
    → Said b s
groups_read b s None t p n h x y z w q = absurd (cc)
groups_read b s (Some g) None p n h x y z w q = absurd (cc)
groups_read b s (Some g) (Some t) None n h x y z w q =
    absurd (cc)
groups_read b s (Some g) (Some t) (Some p) None h x y z w q =
    absurd (cc)
groups_read b s (Some g) (Some t) (Some p) (Some n) h x y z w q =
    let k : record { registration = g; number = number_from (quad_at b 20); memory = record { state = t; notices = n }; orders = get_or b 36 0; phase = p } ≡ s = cc in
    subst (λ (v : Service). Said b v) k
    (record {
      registration = registrations.registration_read (registered_at b 1) g (registrations.registered_at_lem b 1 h) x;
      number = refl;
      state = states.state_read (shown_at b 24) (get_or b 35 0) t (shown_at_lem b 24 h) y;
      orders = refl;
      phase = phases.phase_read (standing_at b 37) p (phases.standing_at_lem b 37 h) z;
      notices = notices_said b n h w;
    })

groups_said : (b : List ℕ) (s : Service) → AllBytes b → parts_from b ≡ Some s → Said b s
groups_said b s h q =
    groups_read b s (registration_from (registered_at b 1)) (state_from (shown_at b 24) (get_or b 35 0)) (phase_from (standing_at b 37)) (notices_from b) h refl
    refl
    refl
    refl
    q

record Accepted (b : List ℕ) (s : Service) : Type 0 where
  size : length b ≡ service_length
  first : get_or b 0 0 ≡ 1
  groups : parts_from b ≡ Some s
  formed : well_formed s ≡ true

formed_read : (b : List ℕ) (s x : Service) (t : Bool) → length b ≡ service_length → get_or b 0 0 ≡ 1 → parts_from b ≡ Some x → well_formed x ≡ t
    → cond t (Some x) None ≡ Some s → Accepted b s
formed_read b s x true l f g e q =
    let k : x ≡ s = cc in
    subst (λ (v : Service). Accepted b v) k (record { size = l; first = f; groups = g; formed = e })
formed_read b s x false l f g e q = absurd (cc)

checked_read : (b : List ℕ) (s : Service) (r : Option Service) → length b ≡ service_length → get_or b 0 0 ≡ 1 → parts_from b ≡ r → checked r ≡ Some s
    → Accepted b s
checked_read b s None l f g q = absurd (cc)
checked_read b s (Some x) l f g q = formed_read b s x (well_formed x) l f g refl q

first_read : (b : List ℕ) (s : Service) (t : Bool) → length b ≡ service_length → eqb (get_or b 0 0) 1 ≡ t
    → cond t (checked (parts_from b)) None ≡ Some s → Accepted b s
first_read b s true l e q = checked_read b s (parts_from b) l (eqb-true (get_or b 0 0) 1 e) refl q
first_read b s false l e q = absurd (cc)

size_read : (b : List ℕ) (s : Service) (t : Bool) → eqb (length b) service_length ≡ t
    → cond t (cond (eqb (get_or b 0 0) 1) (checked (parts_from b)) None) None ≡ Some s
    → Accepted b s
size_read b s true e q = first_read b s (eqb (get_or b 0 0) 1) (eqb-true (length b) service_length e) refl q
size_read b s false e q = absurd (cc)

accepted : (b : List ℕ) (s : Service) → service_from b ≡ Some s → Accepted b s
unfolding service_from
accepted b s q = size_read b s (eqb (length b) service_length) refl q

-- what was read was written so

abbrev bytes_of : ℕ → Registered → Quad → Shown → ℕ → ℕ → Standing → Tagged → Triple → Tagged → Triple → List ℕ
bytes_of f g n d p k a w x y z =
    (f ∷ (registered_bytes g ++ quad_bytes n))
    ++ ((shown_bytes d ++ (p ∷ k ∷ []))
    ++ (standing_bytes a ++ (tagged_bytes w ++ (triple_bytes x ++ (tagged_bytes y ++ triple_bytes z)))))

in_order : (b : List ℕ) → length b ≡ service_length
    → b
    ≡ bytes_of (get_or b 0 0) (registered_at b 1) (quad_at b 20) (shown_at b 24) (get_or b 35 0) (get_or b 36 0) (standing_at b 37) (tagged_at b 47) (triple_at b 54) (tagged_at b 57) (triple_at b 64)
in_order b e = sym (gets_all b service_length e)

pub service_write_read : (b : List ℕ) (s : Service) → AllBytes b → service_from b ≡ Some s → service_bytes s ≡ b
unfolding service_bytes
service_write_read b s h q =
    let a = accepted b s q in
    let w = groups_said b s h a.groups in
    let f = a.first in
    let g = w.registration.written in
    let n = number_written (quad_at b 20) (quad_at_lem b 20 h) ∙ ap number_quad w.number in
    let d = w.state.shown in
    let p = w.state.power in
    let k = w.orders in
    let t = w.phase.written in
    let r = w.notices.provider.written in
    let x = w.notices.disconnected in
    let y = w.notices.connected.written in
    let z = w.notices.unconstrained in
    sym (in_order b a.size ∙ (λ i. bytes_of (f i) (g i) (n i) (d i) (p i) (k i) (t i) (r i) (x i) (y i) (z i)))

pub service_read_typed : (b : List ℕ) (s : Service) → AllBytes b → service_from b ≡ Some s → Typed s × (well_formed s ≡ true)
service_read_typed b s h q =
    let a = accepted b s q in
    let w = groups_said b s h a.groups in (
      record {
        config = w.registration.typed;
        number = subst (λ (n : ℕ). n ≤ 4294967295) w.number (number_within (quad_at b 20) (quad_at_lem b 20 h));
        consumer = w.state.typed;
        phase = w.phase.typed;
        provider = w.notices.provider.typed;
        connected = consumer_typed s.memory.notices.connected w.notices.connected.typed;
      },
      a.formed,
    )
