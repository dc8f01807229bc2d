-- The follower of the code, whose packets wait in a ring of eight places, and the abstract
-- one, whose packets wait in a list: they do and say the same. Proved in proofs/Alike.antt.
use Rattle.std.specs.Prelude.{ℕ, zero, suc, ◌+◌, ◌≤◌, cond, List, [], ◌∷◌, ◌++◌, ◌↔◌, ◌≡◌, None, Some}
use Rattle.power_policy_interface.specs.Limits.{window}
use Rattle.interface_display.specs.declared.Display.{Display}
use Rattle.interface_display.specs.declared.packet.EventPacket.{EventPacket}
use Rattle.interface_display.specs.declared.packet.Packet.{Packet}
use Rattle.abstract_desk.specs.Follower as paper
use Rattle.abstract_desk.specs.Takes.{paper_after, EachBytes}
use Rattle.desk_follower.specs.Follower.{fresh, taken, state_of}
use Rattle.desk_follower.specs.Held.{held_for, holds}
use Rattle.desk_follower.specs.WellFormed.{WellFormed, Readable}
use Rattle.desk_follower.specs.declared.Follower.{Follower}
use Rattle.desk_follower.specs.declared.Shown.{Shown}
use Rattle.desk_follower.specs.declared.held.Held.{Held}
use Rattle.promise_link.specs.Link.{follower_after}
use Rattle.promise_link.specs.Takes.{FollowerLost, FollowerShows}

-- the packet of event m, if the ring holds it
abbrev pub one : Held → ℕ → List EventPacket
one h m = cond (holds h m) (held_for h m ∷ []) []

-- those of the k events from m on, in rising order
unfoldable pub held_from : Held → ℕ → ℕ → List EventPacket
held_from h m zero = []
held_from h m (suc k) = one h m ++ held_from h (m + 1) k

-- a follower of the code, seen as the abstract one: what waits are the packets of n + 2 to n + 8
abbrev pub seen_at : Shown → Held → paper.Follower
seen_at (Shown.Lost floor) h = paper.lost floor
seen_at (Shown.Picture s) h = paper.showing s.number s.display (held_from h (s.number + 2) 7)

abbrev pub seen : Follower → paper.Follower
seen f = seen_at f.shown f.held

-- packets numbered from lo to hi, in rising order
abbrev pub Rising : ℕ → ℕ → List EventPacket → Type 0
Rising lo hi [] = Unit {0}
Rising lo hi (e ∷ l) = (lo ≤ e.number) × (e.number ≤ hi) × Rising (e.number + 1) hi l

pub record Alike : Type 0 where
  -- they start alike
  pub start : seen fresh ≡ paper.fresh
  -- a packet that a reader gives makes the same of both
  pub one_take : (f : Follower) (p : Packet) → WellFormed f → Readable p → seen (taken f p) ≡ paper.taken (seen f) p
  -- they say the same state,
  pub state : (f : Follower) → WellFormed f → state_of f ≡ paper.state (seen f)
  -- are lost alike, and show the same
  pub lost : (f : Follower) → FollowerLost f ↔ (paper.shown (seen f) ≡ None)
  pub shows : (f : Follower) (n : ℕ) (d : Display) → FollowerShows f n d ↔ (paper.shown (seen f) ≡ Some (record { number = n; display = d }))
  -- from a fresh follower on, after any bytes taken, they are alike
  pub takes_alike : (l : List (List ℕ)) → EachBytes l → seen (follower_after l) ≡ paper_after l
  -- and say the same
  pub takes_state : (l : List (List ℕ)) → EachBytes l → state_of (follower_after l) ≡ paper.state (paper_after l)
  -- what waits are packets of the events n + 2 to n + 8, in rising order
  pub rising :
      (l : List (List ℕ)) → EachBytes l → (n : ℕ) (d : Display) (held : List EventPacket) → paper_after l ≡ paper.showing n d held →
      Rising (n + 2) (n + window) held
