-- Whole lists: by induction, each take one step of OneTake.antt. Bytes that were written are read as what was written, and bytes that are
-- turned back change nothing.
use Rattle.std.specs.Prelude.{Err, Ok, Result}
use mathlib.Core.Path.{◌≡◌, ap, sym, ◌∙◌, subst}
use mathlib.Core.Bool.{Bool, true, ◌&&◌}
use mathlib.Core.List.{List, [], ◌∷◌}
use mathlib.Core.Logic.{◌⊎◌, inl, inr, ⊎_elim}
use Prim.Native.Nat.{ℕ}
use lib.Dec.{leb, ltb}
use borrow.Author.Tests.{leb-true}
use Rattle.interface_display.specs.Notices.{listed, padded}
use Rattle.interface_display.specs.declared.packet.EventPacket.{EventPacket}
use Rattle.interface_display.specs.declared.packet.Packet.{Packet}
use Rattle.interface_display.specs.declared.packet.Picture.{Picture}
use Rattle.wire.specs.Bytes.{packet_bytes}
use Rattle.wire.specs.Read.{read_packet}
use Rattle.wire.specs.WellFormed.{well_formed, notices_fit, event_fits, picture_fits}
use Rattle.wire.proofs.OnePacket.{read_write}
use Rattle.std.proofs.lemmas.Bool.{and_parts}
use Rattle.desk_follower.specs.Follower.{taken}
use Rattle.desk_follower.specs.WellFormed.{Readable}
use Rattle.desk_follower.specs.declared.Follower.{Follower}
use Rattle.desk_follower.specs.declared.Shown.{Shown}
use Rattle.desk_follower.specs.declared.held.Held.{Held}
use Rattle.promise_link.specs.Source.{Source}
use Rattle.promise_link.specs.Takes.{taken_read, take_bytes, takes_bytes, Carried, copy, turned_back, AllCarried, Met}
use Rattle.promise_link.proofs.Places.{all_map}
use Rattle.promise_link.proofs.Turns.{Known, GoodAt}
use Rattle.promise_link.proofs.OneTake.{With, Kept, event_kept, picture_kept}

-- what was written is readable, and is read as itself

pub readable : (p : Packet) → well_formed p ≡ true → Readable p
unfolding event_fits picture_fits
readable (Packet.Event e) w =
    let last : Bool = padded e.notices && notices_fit (listed e.notices) in
    let orders : Bool = leb e.orders 35 && last in
    let answer : Bool = leb e.answer 10 && orders in
    let number : Bool = leb e.number 4294967295 in
    let x : number && answer ≡ true = (and_parts (ltb 0 e.number) (number && answer) w).1 in
    let y : answer ≡ true = (and_parts number answer x).1 in
    let z : orders ≡ true = (and_parts (leb e.answer 10) orders y).1 in
    let v : last ≡ true = (and_parts (leb e.orders 35) last z).1 in
    (leb-true e.number 4294967295 (and_parts number answer x).0, (and_parts (padded e.notices) (notices_fit (listed e.notices)) v).0)
readable (Packet.Picture p) w = leb-true p.number 4294967295 (and_parts (leb p.number 4294967295) _ w).0

module _ (source : Source) where
  pub read_back : (p : Packet) (b : List ℕ) → source.Written p → b ≡ packet_bytes p → read_packet b ≡ Ok p
  read_back p b w e = ap read_packet e ∙ read_write p (source.fits p w)

-- what is read is one thing

pub not_refused : {p : Packet} {n : ℕ} {x : Result Packet ℕ} → x ≡ Ok p → x ≡ Err n → ⊥
not_refused e f = cc

pub one_packet : {p q : Packet} {x : Result Packet ℕ} → x ≡ Ok p → x ≡ Ok q → p ≡ q
one_packet e f = cc

pub one_event : {e f : EventPacket} → Packet.Event e ≡ Packet.Event f → e ≡ f
one_event q = cc

pub not_picture : {e : EventPacket} {p : Picture} → Packet.Event e ≡ Packet.Picture p → ⊥
not_picture q = cc

-- the same packets met, said otherwise

good_same : (source : Source) (S R : EventPacket → Type 0) → ((e : EventPacket) → S e → R e) → ((e : EventPacket) → R e → S e) →
    (x : Shown) (h : Held) → GoodAt source S x h → GoodAt source R x h
good_same source S R to from (Shown.Lost floor) h g =
    (λ e k. g.0 e (from e k), ⊎_elim (λ z. inl z) (λ q. inr (q.0, to q.0 q.1, q.2)) g.1)
good_same source S R to from (Shown.Picture s) h g = (
  g.0,
  all_map (Known source S) (Known source R) h (λ e q. (q.0, to e q.1)) g.1,
  λ e k l. g.2 e (from e k) l,
  g.3,
)

pub kept_same : (source : Source) (S R : EventPacket → Type 0) → ((e : EventPacket) → S e → R e) → ((e : EventPacket) → R e → S e) →
    (f : Follower) → Kept source S f → Kept source R f
kept_same source S R to from f k =
    record { formed = k.formed; good = good_same source S R to from f.shown f.held k.good }

-- one take of bytes

abbrev pub Or : (EventPacket → Type 0) → List (List ℕ) → EventPacket → Type 0
Or Seen l e = Seen e ⊎ Met (Packet.Event e) l

module _ (source : Source) (Seen : EventPacket → Type 0) (f : Follower) (b : List ℕ) where
  pub one_kept : Carried source b → Kept source Seen f → Kept source (Or Seen (b ∷ [])) (take_bytes f b)
  one_kept (turned_back n e) k =
      subst (λ x. Kept source (Or Seen (b ∷ [])) (taken_read f x)) (sym e)
      (kept_same source Seen (Or Seen (b ∷ [])) (λ x q. inl q)
      (λ x q. ⊎_elim (λ s. s) (λ m. ⊎_elim (λ r. absurd (not_refused r e)) (λ z. absurd z) m) q) f k)
  one_kept (copy (Packet.Event y) w e) k =
      let r : read_packet b ≡ Ok (Packet.Event y) = read_back source (Packet.Event y) b w e in
      subst (λ x. Kept source (Or Seen (b ∷ [])) (taken_read f x)) (sym r)
      (kept_same source (With Seen y) (Or Seen (b ∷ []))
      (λ x q. ⊎_elim (λ s. inl s) (λ i. inr (inl (r ∙ ap (λ z. Ok (Packet.Event z)) (sym i)))) q)
      (λ x q. ⊎_elim (λ s. inl s) (λ m. ⊎_elim (λ z. inr (one_event (one_packet z r))) (λ z. absurd z) m) q)
      (taken f (Packet.Event y))
      (event_kept source Seen f y (readable (Packet.Event y) (source.fits (Packet.Event y) w)) w k))
  one_kept (copy (Packet.Picture y) w e) k =
      let r : read_packet b ≡ Ok (Packet.Picture y) = read_back source (Packet.Picture y) b w e in
      subst (λ x. Kept source (Or Seen (b ∷ [])) (taken_read f x)) (sym r)
      (kept_same source Seen (Or Seen (b ∷ [])) (λ x q. inl q)
      (λ x q. ⊎_elim (λ s. s) (λ m. ⊎_elim (λ z. absurd (not_picture (one_packet z r))) (λ z. absurd z) m) q)
      (taken f (Packet.Picture y))
      (picture_kept source Seen f y (readable (Packet.Picture y) (source.fits (Packet.Picture y) w)) w k))

-- a list of takes

pub all_kept : (source : Source) (Seen : EventPacket → Type 0) (f : Follower) (l : List (List ℕ)) → AllCarried source l → Kept source Seen f →
    Kept source (Or Seen l) (takes_bytes f l)
all_kept source Seen f [] h k = kept_same source Seen (Or Seen []) (λ x q. inl q) (λ x q. ⊎_elim (λ s. s) (λ z. absurd z) q) f k
all_kept source Seen f (b ∷ l) h k =
    kept_same source (Or (Or Seen (b ∷ [])) l) (Or Seen (b ∷ l))
    (λ x q. ⊎_elim (λ s. ⊎_elim (λ t. inl t) (λ m. inr (⊎_elim (λ r. inl r) (λ z. absurd z) m)) s) (λ m. inr (inr m)) q)
    (λ x q. ⊎_elim (λ s. inl (inl s)) (λ m. ⊎_elim (λ r. inl (inr (inl r))) (λ n. inr n) m) q)
    (takes_bytes (take_bytes f b) l)
    (all_kept source (Or Seen (b ∷ [])) (take_bytes f b) l h.1 (one_kept source Seen f b h.0 k))
