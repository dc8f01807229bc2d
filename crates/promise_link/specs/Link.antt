-- Demand 3's theorem: what a fresh follower shows after any list of takes, for any writer.
use Rattle.std.specs.Prelude.{ℕ, ◌+◌, ◌≤◌, ◌<◌, List, [], ◌∷◌, ◌++◌, ◌⊎◌, ◌≡◌, Ok}
use Rattle.power_policy_interface.specs.Limits.{window}
use Rattle.interface_display.specs.declared.Display.{Display}
use Rattle.interface_display.specs.declared.packet.EventPacket.{EventPacket}
use Rattle.interface_display.specs.declared.packet.Packet.{Packet}
use Rattle.interface_display.specs.declared.packet.Picture.{Picture}
use Rattle.wire.specs.Bytes.{packet_bytes}
use Rattle.wire.specs.Read.{read_packet}
use Rattle.desk_follower.specs.Follower.{fresh}
use Rattle.desk_follower.specs.declared.Follower.{Follower}
use Rattle.promise_link.specs.Source.{Source, number_in}
use Rattle.promise_link.specs.Takes.{takes_bytes, Carried, AllCarried, Met, FollowerLost, FollowerShows}

-- after these takes
abbrev pub follower_after : List (List ℕ) → Follower
follower_after l = takes_bytes fresh l

-- each event packet from n + 1 to n + k comes, without error
abbrev pub EventsCome : ℕ → ℕ → List (List ℕ) → Type 0
EventsCome n k l = (j : ℕ) → n < j → j ≤ n + k → (e : EventPacket) × Met (Packet.Event e) l × (e.number ≡ j) × (e.answer ≡ 0)

-- nothing above this number is anywhere among them
abbrev pub NoneAbove : ℕ → List (List ℕ) → Type 0
NoneAbove n l = (p : Packet) → Met p l → number_in p ≤ n

-- it is numbered no lower than every event packet met
abbrev pub NoLower : ℕ → List (List ℕ) → Type 0
NoLower n l = (e : EventPacket) → Met (Packet.Event e) l → e.number ≤ n

pub record Demand3 (source : Source) : Type 0 where
  -- a fresh follower is lost
  pub fresh_lost : FollowerLost (follower_after [])
  -- DEM-3a: the follower says lost, or shows the n of an event that has closed (0: the start), with exactly what was held there
  pub a : (l : List (List ℕ)) → AllCarried source l → FollowerLost (follower_after l) ⊎ ((n : ℕ) × source.Closed n × FollowerShows (follower_after l) n (source.held n))
  -- DEM-3b: if it shows n and then each event packet n + 1 to n + k comes, in any order, k ≤ window, all without error, and nothing above
  -- n + k is anywhere among the takes, it shows n + k
  pub b :
      (before later : List (List ℕ)) (n k : ℕ) (d : Display) → AllCarried source (before ++ later) → FollowerShows (follower_after before) n d → k ≤ window →
      EventsCome n k later → NoneAbove (n + k) (before ++ later) →
      FollowerShows (follower_after (before ++ later)) (n + k) (source.held (n + k))
  -- DEM-3c: lost, it shows a picture exactly when that is numbered no lower than every event packet met before
  pub c :
      (before : List (List ℕ)) (p : Picture) → AllCarried source before → source.Written (Packet.Picture p) → FollowerLost (follower_after before) →
      (NoLower p.number before → FollowerShows (follower_after (before ++ (packet_bytes (Packet.Picture p) ∷ []))) p.number p.display)
      × (FollowerShows (follower_after (before ++ (packet_bytes (Packet.Picture p) ∷ []))) p.number p.display → NoLower p.number before)
  -- whatever else is handed to it, it stays lost
  pub d :
      (before : List (List ℕ)) (b : List ℕ) → AllCarried source before → Carried source b → FollowerLost (follower_after before) →
      ((p : Picture) → read_packet b ≡ Ok (Packet.Picture p) → NoLower p.number before → ⊥) →
      FollowerLost (follower_after (before ++ (b ∷ [])))
