-- TST-4 to TST-11, the testers' second programs: each is ours but for one function, or for the three readers and the page.
use Rattle.std.specs.Prelude.{ℕ, ◌-◌, cond, List, ◌++◌, eqb, length, drop, get_or, set, None, Ok}
use Rattle.interface_display.specs.Providers.{none}
use Rattle.abstract_page.specs.Page.{Entry, lines, lost_entries}
use Rattle.abstract_calls.specs.Called.{Called, called}
use Rattle.abstract_calls.specs.Lent.{page_call}
use Rattle.abstract_calls.specs.Numbers.{refused_number, closed_number, lost_number, consumer_number, tracked_number}
use Rattle.abstract_calls.specs.Functions.{Functions}
use Rattle.abi_functions.specs.Ours.{functions}
use Rattle.promise.specs.Promise.{Promise}

-- ours, but for these

abbrev changed :
    (List ℕ → List ℕ → List ℕ → ℕ → ℕ → ℕ → Called) → (List ℕ → List ℕ → List ℕ → ℕ → Called) → (List ℕ → List ℕ → Called) → (List ℕ → List ℕ → Called) →
    (List ℕ → ℕ) → (List ℕ → ℕ) → (List ℕ → ℕ) → (List ℕ → List ℕ → Called) → Functions
changed open_event answer write_packet take shown consumer tracked write_page = record {
  start = functions.start;
  open_event = open_event;
  answer = answer;
  order = functions.order;
  write_packet = write_packet;
  write_picture = functions.write_picture;
  follower_start = functions.follower_start;
  take = take;
  shown = shown;
  consumer = consumer;
  tracked = tracked;
  write_page = write_page;
}

abbrev with_open : (List ℕ → List ℕ → List ℕ → ℕ → ℕ → ℕ → Called) → Functions
with_open o = changed o functions.answer functions.write_packet functions.take functions.shown functions.consumer functions.tracked functions.write_page

abbrev with_answer : (List ℕ → List ℕ → List ℕ → ℕ → Called) → Functions
with_answer o = changed functions.open_event o functions.write_packet functions.take functions.shown functions.consumer functions.tracked functions.write_page

abbrev with_packet : (List ℕ → List ℕ → Called) → Functions
with_packet o = changed functions.open_event functions.answer o functions.take functions.shown functions.consumer functions.tracked functions.write_page

abbrev with_take : (List ℕ → List ℕ → Called) → Functions
with_take o = changed functions.open_event functions.answer functions.write_packet o functions.shown functions.consumer functions.tracked functions.write_page

abbrev with_readers : ℕ → ℕ → ℕ → List Entry → Functions
with_readers s c t l =
    changed functions.open_event functions.answer functions.write_packet functions.take (λ b. s) (λ b. c) (λ b. t) (λ b buffer. page_call (lines l) buffer)

-- TST-4: a follower that says lost from the first packet
abbrev pub always_lost : Functions
always_lost = with_readers lost_number (consumer_number None) (tracked_number none) lost_entries

-- TST-5: one that shows pictures and ignores events: a packet of kind 1 leaves the follower as it was
abbrev pub deaf : Functions
deaf = with_take (λ b y. called (functions.take b y).number (cond (eqb (get_or y 0 0) 1) b (functions.take b y).bytes))

-- TST-6: a service that gives every order while opening and ignores later answers: a call returns one order, so that what is left of it is that every
-- answer counts as done
abbrev pub ignores_answers : Functions
ignores_answers = with_answer (λ b psus chargers a. functions.answer b psus chargers 0)

-- TST-7: a packet whose order count is invented: byte 3, where the orders stand of an event numbered below 128, is 35
abbrev pub invents_count : Functions
invents_count = with_packet (λ b buffer. called (functions.write_packet b buffer).number (set (functions.write_packet b buffer).bytes 3 35))

-- TST-8: a chooser that always names port 0: port 0 is taken to offer what the last port does, and of equals it is the earlier
abbrev pub always_port0 : Functions
always_port0 =
    with_open
    (λ b psus chargers kind device detail.
    functions.open_event b (drop (length psus - 18) psus ++ drop 18 psus) chargers kind device detail)

-- TST-9: a service that orders nothing: every event closes at once
abbrev pub orders_nothing : Functions
orders_nothing = with_open (λ b psus chargers kind device detail. called (closed_number (Ok tt) 0) b)

-- TST-10: an entry that turns every event back, with whatever number
abbrev pub turns_back : ℕ → Functions
turns_back n = with_open (λ b psus chargers kind device detail. called (refused_number n) b)

-- TST-11: a full tracked set that stays full after removals: a Detached only updates the consumer
abbrev pub stays_full : Functions
stays_full =
    with_open (λ b psus chargers kind device detail. functions.open_event b psus chargers (cond {A = ℕ} (eqb kind 4) 1 kind) device detail)

-- none of them keeps the promise
pub record Testers : Type 0 where
  pub always_lost : Promise always_lost → ⊥
  pub deaf : Promise deaf → ⊥
  pub ignores_answers : Promise ignores_answers → ⊥
  pub invents_count : Promise invents_count → ⊥
  pub always_port_0 : Promise always_port0 → ⊥
  pub orders_nothing : Promise orders_nothing → ⊥
  pub turns_back : (n : ℕ) → Promise (turns_back n) → ⊥
  pub stays_full : Promise stays_full → ⊥
