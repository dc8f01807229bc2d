-- P12: the five takes of the example (PRG-7), computed by the definitions.
-- Assumes nothing.
use Rattle.std.specs.Prelude.{None, Option, Some, ℕ}
use mathlib.Core.Path.{◌≡◌, refl}
use mathlib.Core.List.{List, [], ◌∷◌}
use mathlib.Core.Bool.{false}
use Rattle.power_policy_interface.specs.declared.capability.PsuType.{PsuType}
use Rattle.power_policy_interface.specs.declared.service.event.Event as notice
use Rattle.interface_display.specs.Display.{fresh}
use Rattle.interface_display.specs.Notices.{empty, pushed}
use Rattle.interface_display.specs.declared.packet.Packet.{Packet}
use Rattle.interface_display.specs.declared.State.{State}
use Rattle.desk_follower.specs.Follower as follower
use Rattle.desk_follower.specs.Held.{none_held, greatest, above}
use Rattle.desk_follower.specs.declared.Follower.{Follower}

-- 02 00 00 00 00 00: the picture of a fresh service
abbrev picture0 : Packet
picture0 = Packet.Picture (record { number = 0; display = fresh })

-- 01 02 00 00 00: event 2, done, no orders, no notices
abbrev event2 : Packet
event2 = Packet.Event (record { number = 2; answer = 0; orders = 0; notices = empty })

-- 01 01 00 02 01 02 01 A0 9C 01 B8 17 02: event 1, done, two orders, consumer connected at port 1 with 20,000 mV, 3,000 mA, TypeC
abbrev event1 : Packet
event1 =
    Packet.Event
    (record {
      number = 1;
      answer = 0;
      orders = 2;
      notices =
          pushed empty
          (notice.Event.ConsumerConnected 1
          (record {
            capability = record { voltage_mv = 20000; current_ma = 3000 };
            flags = record { unconstrained_power = false; psu_type = Some PsuType.TypeC };
          }));
    })

-- 01 03 07 01 00: event 3, answer 7, one order, no notices
abbrev event3 : Packet
event3 = Packet.Event (record { number = 3; answer = 7; orders = 1; notices = empty })

-- a line of `follow`: n, state, consumer port, its mW
record Line : Type 0 where
  n : Option ℕ
  state : State
  port : Option ℕ
  mw : Option ℕ

abbrev line : Follower → Line
line f =
    record {
      n = follower.number_of f.shown;
      state = follower.state_of f;
      port = follower.port_of f.shown;
      mw = follower.mw_of f.shown;
    }

-- the line after each take
abbrev lines : Follower → List Packet → List Line
lines f [] = []
lines f (p ∷ l) = line (follower.taken f p) ∷ lines (follower.taken f p) l

pub P12 : lines follower.fresh (picture0 ∷ event2 ∷ event1 ∷ event1 ∷ event3 ∷ [])
    ≡ record { n = Some 0; state = State.Level; port = None; mw = None }
    ∷ record { n = Some 0; state = State.Waiting; port = None; mw = None }
    ∷ record { n = Some 2; state = State.Level; port = Some 1; mw = Some 60000 }
    ∷ record { n = Some 2; state = State.Level; port = Some 1; mw = Some 60000 }
    ∷ record { n = None; state = State.Lost; port = None; mw = None }
    ∷ []
unfolding none_held greatest above follower.in_turn
P12 = refl
