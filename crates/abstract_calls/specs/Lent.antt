-- What calls read from lent bytes and write into a lent buffer; no image is looked at here.
use Rattle.std.specs.Prelude.{ℕ, List, None, Option, Some, Err, Ok, Result}
use Rattle.power_policy_interface.specs.Limits.{page_length}
use Rattle.interface_records.specs.Charger.{charger_row}
use Rattle.interface_records.specs.Psu.{psu_row}
use Rattle.power_policy_interface.specs.declared.charger.State as charger
use Rattle.power_policy_interface.specs.declared.psu.State as psu
use Rattle.abstract_policy.specs.declared.state.Records.{Records}
use Rattle.abstract_policy.specs.declared.state.Registration.{Registration}
use Rattle.interface_display.specs.declared.packet.EventPacket.{EventPacket}
use Rattle.interface_display.specs.declared.packet.Packet.{Packet}
use Rattle.interface_display.specs.declared.packet.Picture.{Picture}
use Rattle.wire.specs.Bytes.{event_bytes, picture_bytes}
use Rattle.wire_writer.specs.Stored.{stored_from, written_from, stored, written_of}
use Rattle.abstract_calls.specs.Called.{Called, called, refused_call}
use Rattle.abstract_calls.specs.Numbers.{refused_number, written_number, done_number}

-- the records of all ports and chargers; none where their bytes are not those of records

abbrev pub rows_of : Option (List psu.State) → Option (List charger.State) → Option Records
rows_of None c = None
rows_of (Some p) None = None
rows_of (Some p) (Some c) = Some (record { psus = p; chargers = c })

abbrev pub rows_in : Registration → List ℕ → List ℕ → Option Records
rows_in g psus chargers = rows_of (psu_row g.ports psus) (charger_row g.chargers chargers)

-- what writing into a buffer returns
abbrev pub written_as : Result ℕ ℕ → ℕ
written_as (Err n) = refused_number n
written_as (Ok n) = written_number n

-- a packet or picture in a buffer: REF-29 for one under 64 bytes; bytes past what is written stay

abbrev pub written_call : List ℕ → List ℕ → Called
written_call bytes buffer = called (written_as (written_of bytes buffer)) (stored bytes buffer)

abbrev pub packet_call : Result EventPacket ℕ → List ℕ → Called
packet_call (Err n) buffer = refused_call n buffer
packet_call (Ok e) buffer = written_call (event_bytes e) buffer

abbrev pub picture_call : Result Picture ℕ → List ℕ → Called
picture_call (Err n) buffer = refused_call n buffer
picture_call (Ok p) buffer = written_call (picture_bytes p) buffer

-- a page: REF-34 for a buffer under 246 bytes; S1-8, in a longer one the bytes after it stay
abbrev pub page_call : List ℕ → List ℕ → Called
page_call page buffer = called (written_as (written_from page_length 34 page buffer)) (stored_from page_length page buffer)

-- what a take returns: done, or the first of 30 to 33 from the left
abbrev pub take_to : Result Packet ℕ → ℕ
take_to (Err n) = refused_number n
take_to (Ok p) = done_number
