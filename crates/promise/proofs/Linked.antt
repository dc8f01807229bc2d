-- DEM-3 of our functions: a packet or picture of the run is read as what the definition has there, so that promise_run's theorem on the link says
-- what the follower shows, and its readers return that.
use Rattle.std.specs.Prelude.{Ok, Option}
use mathlib.Core.Path.{◌≡◌, refl, sym, ap, ◌∙◌, subst}
use mathlib.Core.Bool.{true}
use mathlib.Core.List.{List, [], ◌∷◌, ◌++◌}
use mathlib.Core.Logic.{◌⊎◌, ◌↔◌, inl, inr, ⊎_elim}
use Prim.Native.Nat.{ℕ, ◌+◌, ◌/◌, ◌≤◌}
use lib.ListN.{length}
use Rattle.power_policy_interface.specs.Limits.{follower_length}
use Rattle.power_policy_interface.specs.Psu.{answer_byte}
use Rattle.interface_display.specs.declared.Display.{Display}
use Rattle.interface_display.specs.declared.packet.EventPacket.{EventPacket}
use Rattle.interface_display.specs.declared.packet.Packet.{Packet}
use Rattle.interface_display.specs.declared.packet.Picture.{Picture}
use Rattle.abstract_policy.specs.Policy.{started}
use Rattle.abstract_policy.specs.declared.state.Registration.{Registration}
use Rattle.machine_service.specs.declared.Service.{Service}
use Rattle.wire.specs.Bytes.{packet_bytes}
use Rattle.wire.specs.Read.{read_packet}
use Rattle.wire.specs.WellFormed.{picture_fits}
use Rattle.desk_follower.specs.Follower.{state_of, consumer_of}
use Rattle.desk_follower.specs.declared.Follower.{Follower}
use Rattle.desk_follower.specs.declared.Shown.{Shown}
use Rattle.promise_link.specs.Link as link
use Rattle.promise_link.specs.Link.{follower_after}
use Rattle.promise_link.specs.Source.{Source, number_in}
use Rattle.promise_link.specs.Takes as taken
use Rattle.promise_link.specs.Takes.{Met}
use Rattle.promise_link.proofs.Lists.{one_packet}
use Rattle.promise_run.specs.Demands as run
use Rattle.promise_run.specs.Demands.{OnLink}
use Rattle.abstract_calls.specs.Numbers.{consumer_number, shown_number}
use Rattle.abstract_calls.specs.ServiceCall.{ByteCall, write_packet, write_picture}
use Rattle.abstract_calls.specs.Calls.{CallsBytes, desk, packets_of}
use Rattle.abstract_calls.specs.DeskCall.{DeskCall, take_packet}
use Rattle.abstract_calls.specs.Definition.{calls_of, defined, held}
use Rattle.bytes_service_image.specs.Image.{service_bytes}
use Rattle.bytes_follower_image.specs.Fits.{shown_fits}
use Rattle.bytes_follower_image.specs.Image.{follower_from}
use Rattle.bytes_follower_image.proofs.OneImage.{fits, picture_parts}
use Rattle.promise_invariant.proofs.Good.{Good}
use Rattle.bytes_calls.specs.Calls.{reader_call, shown_as, tracked_in}
use Rattle.abi_functions.specs.Ours.{functions}
use Rattle.abstract_calls.proofs.Lists.{packets_on}
use Rattle.interface_display.specs.declared.State.{State}
use Rattle.abstract_page.specs.Page.{entries_of}
use Rattle.promise_link.specs.Alike.{held_from, seen_at, seen}
use Rattle.promise_link.proofs.Alike.{alike}
use Rattle.abstract_desk.specs.Follower as paper
use Rattle.promise.proofs.Pages.{page_says, shown_either}
use Rattle.promise_calls.proofs.Takes.{AllKeep, all_keep, desk_fits, desk_read}
use Rattle.promise_calls.proofs.Written.{Sent, bytes_left, packet-sent, picture-sent}
use Rattle.promise.specs.Runs.{PacketOf, PictureOf, Handed, packet, picture, turned_back, AllHanded, In, Comes, NothingAbove, NoEventAbove, Says, Lost, Shows}
use Rattle.promise.specs.Promise.{Link}
use Rattle.promise.proofs.Sent.{packet_of, packet_is, picture_is}
use Rattle.promise.proofs.Shown.{shown_number_lem, not_lost}

module _ (s : Service) (good : Good s) (demands : run.Demands s) (calls : List ByteCall) (bytes : CallsBytes calls) (on : OnLink s (calls_of (started s.registration) calls)) where
  abbrev g : Registration
  g = s.registration

  abbrev image : List ℕ
  image = service_bytes s

  abbrev source : Source
  source = on.source

  abbrev at : ℕ → Display
  at n = held g calls n

  -- what a packet and a picture of the run are read as

  record Event (n : ℕ) (y : List ℕ) (w : PacketOf functions image g calls n y) : Type 0 where
    event : EventPacket
    sent : Sent s good demands calls on y (Packet.Event event)
    number : event.number ≡ n
    answer : event.answer ≡ answer_byte (defined g w.before).answer

  event_of : (n : ℕ) (y : List ℕ) (w : PacketOf functions image g calls n y) → Event n y w
  event_of n y w =
      let b : CallsBytes w.before = bytes_left w.before (write_packet w.buffer ∷ w.rest) (subst CallsBytes w.among bytes) in
      let z = packet-sent s good demands calls on w.before w.rest b w.buffer y w.among w.writes in
      let k : z.0 ≡ packet_of (defined g w.before) = packet_is (defined g w.before) z.0 z.1 in
      record { event = z.0; sent = z.2; number = ap (λ (e : EventPacket). e.number) k ∙ w.number; answer = ap (λ (e : EventPacket). e.answer) k }

  record View (n : ℕ) (y : List ℕ) : Type 0 where
    view : Picture
    sent : Sent s good demands calls on y (Packet.Picture view)
    number : view.number ≡ n
    display : view.display ≡ source.held n

  view_of : (n : ℕ) (y : List ℕ) → PictureOf functions image g calls n y → View n y
  view_of n y w =
      let b : CallsBytes w.before = bytes_left w.before (write_picture w.buffer ∷ w.rest) (subst CallsBytes w.among bytes) in
      let z = picture-sent s good demands calls on w.before w.rest b w.buffer y w.among w.writes in
      let k : z.0.number ≡ n = ap (λ (v : Picture). v.number) (picture_is (defined g w.before) z.0 z.1) ∙ w.number in
      record { view = z.0; sent = z.2; number = k; display = source.picture z.0 z.2.written ∙ ap (λ (m : ℕ). source.held m) k }

  -- what the link hands over

  handed : (y : List ℕ) → Handed functions image g calls y → taken.Carried source y
  handed y (packet n w) =
      let z = event_of n y w in
      taken.copy (Packet.Event z.event) z.sent.written z.sent.bytes
  handed y (picture n w) =
      let z = view_of n y w in
      taken.copy (Packet.Picture z.view) z.sent.written z.sent.bytes
  handed y (turned_back n e) = taken.turned_back n e

  all_handed : (l : List (List ℕ)) → AllHanded functions image g calls l → taken.AllCarried source l
  all_handed [] q = tt
  all_handed (y ∷ l) q = (handed y q.0, all_handed l q.1)

  handed_left : (l m : List (List ℕ)) → AllHanded functions image g calls (l ++ m) → AllHanded functions image g calls l
  handed_left [] m q = tt
  handed_left (y ∷ l) m q = (q.0, handed_left l m q.1)

  and_one : (l : List (List ℕ)) (y : List ℕ) → AllHanded functions image g calls l → Handed functions image g calls y → AllHanded functions image g calls (l ++ (y ∷ []))
  and_one [] y q r = (r, tt)
  and_one (z ∷ l) y q r = (q.0, and_one l y q.1 r)

  -- what is among the takes, by bytes and by packets

  met : (y : List ℕ) (p : Packet) (l : List (List ℕ)) → read_packet y ≡ Ok p → In functions image g calls y l → Met p l
  met y p [] r x = absurd x
  met y p (z ∷ l) r (inl e) = inl (ap read_packet e ∙ r)
  met y p (z ∷ l) r (inr i) = inr (met y p l r i)

  among : (p : Packet) (l : List (List ℕ)) → Met p l → (y : List ℕ) × In functions image g calls y l × (read_packet y ≡ Ok p)
  among p [] x = absurd x
  among p (y ∷ l) (inl e) = (y, inl refl, e)
  among p (y ∷ l) (inr m) =
      let z = among p l m in
      (z.0, inr z.1, z.2)

  hands : (y : List ℕ) (l : List (List ℕ)) → AllHanded functions image g calls l → In functions image g calls y l → Handed functions image g calls y
  hands y [] q x = absurd x
  hands y (z ∷ l) q (inl e) = subst (λ (b : List ℕ). Handed functions image g calls b) e q.0
  hands y (z ∷ l) q (inr i) = hands y l q.1 i

  comes : (n k : ℕ) (l : List (List ℕ)) → Comes functions image g calls n k l → link.EventsCome n k l
  comes n k l c j a b =
      let x = c j a b in
      let z = event_of j x.0 x.2.0 in
      (z.event, met x.0 (Packet.Event z.event) l z.sent.read x.1, z.number, z.answer ∙ ap answer_byte x.2.1)

  -- of what is met, whichever it is, the run has a packet or picture with that number

  nothing_above : (m : ℕ) (l : List (List ℕ)) → AllHanded functions image g calls l → NothingAbove functions image g calls m l → link.NoneAbove m l
  nothing_above m l q c p i =
      let x = among p l i in
      go x.0 x.1 x.2 (hands x.0 l q x.1)
    where
      go : (y : List ℕ) → In functions image g calls y l → read_packet y ≡ Ok p → Handed functions image g calls y → number_in p ≤ m
      go y j r (packet n w) =
          let z = event_of n y w in
          subst (λ (k : ℕ). k ≤ m) (sym z.number ∙ ap number_in (one_packet z.sent.read r)) (c n y j (inl w))
      go y j r (picture n w) =
          let z = view_of n y w in
          subst (λ (k : ℕ). k ≤ m) (sym z.number ∙ ap number_in (one_packet z.sent.read r)) (c n y j (inr w))
      go y j r (turned_back n e) = absurd (cc)

  no_event_above : (m : ℕ) (l : List (List ℕ)) → AllHanded functions image g calls l → NoEventAbove functions image g calls m l → link.NoLower m l
  no_event_above m l q c e i =
      let x = among (Packet.Event e) l i in
      go x.0 x.1 x.2 (hands x.0 l q x.1)
    where
      go : (y : List ℕ) → In functions image g calls y l → read_packet y ≡ Ok (Packet.Event e) → Handed functions image g calls y → e.number ≤ m
      go y j r (packet n w) =
          let z = event_of n y w in
          subst (λ (k : ℕ). k ≤ m) (sym z.number ∙ ap number_in (one_packet z.sent.read r)) (c n y j w)
      go y j r (picture n w) = absurd (cc ((view_of n y w).sent.read))
      go y j r (turned_back n t) = absurd (cc)

  no_lower : (m : ℕ) (l : List (List ℕ)) → link.NoLower m l → NoEventAbove functions image g calls m l
  no_lower m l c n y i w =
      let z = event_of n y w in
      subst (λ (k : ℕ). k ≤ m) z.number (c z.event (met y (Packet.Event z.event) l z.sent.read i))

  -- what the readers return of the follower after these calls

  module _ (x : List ℕ) (size : length x ≡ follower_length) (l : List DeskCall) (q : AllHanded functions image g calls (packets_of l)) where
    keep : AllKeep (packets_of l)
    keep = all_keep source (packets_of l) (all_handed (packets_of l) q)

    told : (t : Follower → Shown → ℕ) (u : Shown) → (follower_after (packets_of l)).shown ≡ u → reader_call (follower_from (desk functions x l)) (λ f. t f f.shown) ≡ t (follower_after (packets_of l)) u
    told t u e = ap (λ (r : Option Follower). reader_call r (λ f. t f f.shown)) (desk_read x size l keep) ∙ ap (t (follower_after (packets_of l))) e

    says : (u : Shown) → (follower_after (packets_of l)).shown ≡ u → Says functions (desk functions x l) (entries_of (seen_at u (follower_after (packets_of l)).held))
    says u e =
        subst (λ (v : Shown). Says functions (desk functions x l) (entries_of (seen_at v (follower_after (packets_of l)).held))) e
        (page_says (desk functions x l) (follower_after (packets_of l)) (desk_read x size l keep) (desk_fits x size l keep))

    state-is : state_of (follower_after (packets_of l)) ≡ paper.state (seen (follower_after (packets_of l)))
    state-is = alike.state (follower_after (packets_of l)) (fits (follower_after (packets_of l)) (desk_fits x size l keep)).formed

    lost-by : taken.FollowerLost (follower_after (packets_of l)) → Lost functions (desk functions x l)
    lost-by z = record {
      shown = told (λ f u. shown_as (state_of f) u) (Shown.Lost z.0) z.1;
      consumer = told (λ f u. consumer_number (consumer_of u)) (Shown.Lost z.0) z.1;
      tracked = told (λ f u. tracked_in u) (Shown.Lost z.0) z.1;
      page = says (Shown.Lost z.0) z.1;
    }

    small : (n : ℕ) (d : Display) → taken.FollowerShows (follower_after (packets_of l)) n d → d.unconstrained.available ≤ 16
    small n d e =
        let k : picture_fits (record { number = n; display = d }) ≡ true = subst (λ (u : Shown). shown_fits u ≡ true) e (fits (follower_after (packets_of l)) (desk_fits x size l keep)).shown in
        (picture_parts (record { number = n; display = d }) k).available

    shows-by : (n : ℕ) (d : Display) → taken.FollowerShows (follower_after (packets_of l)) n d → Shows functions (desk functions x l) n d
    shows-by n d e =
        let r : functions.shown (desk functions x l) ≡ shown_number (state_of (follower_after (packets_of l))) n d =
        told (λ f u. shown_as (state_of f) u) (Shown.Picture (record { number = n; display = d })) e in
        record {
          shown = shown_either (desk functions x l) n d (held_from (follower_after (packets_of l)).held (n + 2) 7) (r ∙ ap (λ (t : State). shown_number t n d) (state-is ∙ ap (λ (u : Shown). paper.state (seen_at u (follower_after (packets_of l)).held)) e)) (says (Shown.Picture (record { number = n; display = d })) e);
          number = ap (λ (y : ℕ). y / 4294967296) r ∙ shown_number_lem (state_of (follower_after (packets_of l))) n d (small n d e);
          consumer = told (λ f u. consumer_number (consumer_of u)) (Shown.Picture (record { number = n; display = d })) e;
          tracked = told (λ f u. tracked_in u) (Shown.Picture (record { number = n; display = d })) e;
        }

    -- lost or shown, it is the follower that is: it can be nothing else

    is : taken.FollowerLost (follower_after (packets_of l)) ⊎ ((n : ℕ) × source.Closed n × taken.FollowerShows (follower_after (packets_of l)) n (source.held n))
    is = on.demand.a (packets_of l) (all_handed (packets_of l) q)

    by_lost : Lost functions (desk functions x l) → taken.FollowerLost (follower_after (packets_of l))
    by_lost z =
        ⊎_elim (λ y. y)
        (λ y. absurd (not_lost functions (desk functions x l) y.0 (source.held y.0) (shows-by y.0 (source.held y.0) y.2).shown z.shown))
        is

    by-shows : (n : ℕ) (d : Display) → Shows functions (desk functions x l) n d → taken.FollowerShows (follower_after (packets_of l)) n (source.held n)
    by-shows n d z =
        ⊎_elim (λ y. absurd (not_lost functions (desk functions x l) n d z.shown (lost-by y).shown))
        (λ y. subst (λ (m : ℕ). taken.FollowerShows (follower_after (packets_of l)) m (source.held m)) (sym (shows-by y.0 (source.held y.0) y.2).number ∙ z.number) y.2)
        is

    shows_at : (n : ℕ) → taken.FollowerShows (follower_after (packets_of l)) n (source.held n) → Shows functions (desk functions x l) n (at n)
    shows_at n z = subst (λ (d : Display). Shows functions (desk functions x l) n d) (on.held n) (shows-by n (source.held n) z)

  -- the four conclusions

  module _ (x : List ℕ) (size : length x ≡ follower_length) where
    never_wrong : (l : List DeskCall) → AllHanded functions image g calls (packets_of l) →
        Lost functions (desk functions x l) ⊎ ((n : ℕ) × (n ≤ (defined g calls).number) × Shows functions (desk functions x l) n (at n))
    never_wrong l q =
        ⊎_elim (λ z. inl (lost-by x size l q z)) (λ z. inr (z.0, (on.closed z.0).0 z.1, shows_at x size l q z.0 z.2)) (is x size l q)

    follows : (before later : List DeskCall) (n k : ℕ) → AllHanded functions image g calls (packets_of (before ++ later)) →
        Shows functions (desk functions x before) n (at n) → k ≤ 8 → Comes functions image g calls n k (packets_of later) →
        NothingAbove functions image g calls (n + k) (packets_of (before ++ later)) → Shows functions (desk functions x (before ++ later)) (n + k) (at (n + k))
    follows before later n k q w le c a =
        let e : packets_of (before ++ later) ≡ packets_of before ++ packets_of later = packets_on before later in
        let both : AllHanded functions image g calls (packets_of before ++ packets_of later) = subst (λ (l : List (List ℕ)). AllHanded functions image g calls l) e q in
        shows_at x size (before ++ later) q (n + k)
        (subst (λ (l : List (List ℕ)). taken.FollowerShows (follower_after l) (n + k) (source.held (n + k))) (sym e)
        (on.demand.b (packets_of before) (packets_of later) n k (source.held n) (all_handed (packets_of before ++ packets_of later) both)
        (by-shows x size before (handed_left (packets_of before) (packets_of later) both) n (at n) w) le
        (comes n k (packets_of later) c)
        (nothing_above (n + k) (packets_of before ++ packets_of later) both (subst (λ (l : List (List ℕ)). NothingAbove functions image g calls (n + k) l) e a))))

    -- one packet more
    module _ (before : List DeskCall) (y : List ℕ) where
      one_more : packets_of (before ++ (take_packet y ∷ [])) ≡ packets_of before ++ (y ∷ [])
      one_more = packets_on before (take_packet y ∷ [])

      handed-more : AllHanded functions image g calls (packets_of before) → Handed functions image g calls y → AllHanded functions image g calls (packets_of (before ++ (take_packet y ∷ [])))
      handed-more q h = subst (λ (l : List (List ℕ)). AllHanded functions image g calls l) (sym one_more) (and_one (packets_of before) y q h)

    recovers : (before : List DeskCall) (n : ℕ) (y : List ℕ) → AllHanded functions image g calls (packets_of before) → PictureOf functions image g calls n y →
        Lost functions (desk functions x before) →
        Shows functions (desk functions x (before ++ (take_packet y ∷ []))) n (at n) ↔ NoEventAbove functions image g calls n (packets_of before)
    recovers before n y q w lost = (
      λ k.
          no_lower n met-before
          (subst (λ (m : ℕ). link.NoLower m met-before) v.number
          (z.1 (from (subst (λ (l : List (List ℕ)). taken.FollowerShows (follower_after l) n (source.held n)) (one_more before y) (by-shows x size after u n (at n) k))))),
      λ k.
          shows_at x size after u n
          (subst (λ (l : List (List ℕ)). taken.FollowerShows (follower_after l) n (source.held n)) (sym (one_more before y))
          (to (z.0 (subst (λ (m : ℕ). link.NoLower m met-before) (sym v.number) (no_event_above n met-before q k))))),
    )
      where
        met-before : List (List ℕ)
        met-before = packets_of before

        after : List DeskCall
        after = before ++ (take_packet y ∷ [])

        v : View n y
        v = view_of n y w

        u : AllHanded functions image g calls (packets_of (before ++ (take_packet y ∷ [])))
        u = handed-more before y q (picture n w)

        On : List ℕ → ℕ → Display → Type 0
        On b m d = taken.FollowerShows (follower_after (packets_of before ++ (b ∷ []))) m d

        z : (link.NoLower v.view.number (packets_of before) → On (packet_bytes (Packet.Picture v.view)) v.view.number v.view.display)
            × (On (packet_bytes (Packet.Picture v.view)) v.view.number v.view.display → link.NoLower v.view.number (packets_of before))
        z = on.demand.c (packets_of before) v.view (all_handed (packets_of before) q) v.sent.written (by_lost x size before q lost)

        -- the bytes handed over are the picture's, its number is n and its display what was held there
        to : On (packet_bytes (Packet.Picture v.view)) v.view.number v.view.display → On y n (source.held n)
        to h =
            subst (λ (b : List ℕ). On b n (source.held n)) (sym v.sent.bytes)
            (subst (λ (m : ℕ). On (packet_bytes (Packet.Picture v.view)) m (source.held n)) v.number
            (subst (λ (d : Display). On (packet_bytes (Packet.Picture v.view)) v.view.number d) v.display h))

        from : On y n (source.held n) → On (packet_bytes (Packet.Picture v.view)) v.view.number v.view.display
        from h =
            subst (λ (d : Display). On (packet_bytes (Packet.Picture v.view)) v.view.number d) (sym v.display)
            (subst (λ (m : ℕ). On (packet_bytes (Packet.Picture v.view)) m (source.held n)) (sym v.number)
            (subst (λ (b : List ℕ). On b n (source.held n)) v.sent.bytes h))

    stays_lost : (before : List DeskCall) (y : List ℕ) → AllHanded functions image g calls (packets_of before) → Handed functions image g calls y →
        Lost functions (desk functions x before) → ((n : ℕ) → PictureOf functions image g calls n y → NoEventAbove functions image g calls n (packets_of before) → ⊥) →
        Lost functions (desk functions x (before ++ (take_packet y ∷ [])))
    stays_lost before y q h lost k =
        lost-by x size (before ++ (take_packet y ∷ [])) (handed-more before y q h)
        (subst (λ (l : List (List ℕ)). taken.FollowerLost (follower_after l)) (sym (one_more before y))
        (on.demand.d (packets_of before) y (all_handed (packets_of before) q) (handed y h) (by_lost x size before q lost) (go h)))
      where
        go : Handed functions image g calls y → (p : Picture) → read_packet y ≡ Ok (Packet.Picture p) → link.NoLower p.number (packets_of before) → ⊥
        go (packet n w) p r c = cc ((event_of n y w).sent.read)
        go (picture n w) p r c =
            let v = view_of n y w in
            let e : v.view ≡ p = cc (v.sent.read) in
            k n w (no_lower n (packets_of before) (subst (λ (m : ℕ). link.NoLower m (packets_of before)) (sym (ap (λ (z : Picture). z.number) e) ∙ v.number) c))
        go (turned_back n t) p r c = cc

    pub ours-link : Link functions image g calls x
    ours-link = record { never_wrong = never_wrong; follows = follows; recovers = recovers; stays_lost = stays_lost }
