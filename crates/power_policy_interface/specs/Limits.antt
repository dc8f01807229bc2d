-- Limits and lengths that docs/REQUIREMENTS.md names, each once; the code's are in src/limits.rt.
use Rattle.std.specs.Prelude.{ℕ}

-- the greatest number of 32 bits: of milliwatts, and of an event (PKT-6, REF-28)
abbrev pub largest : ℕ
largest = 4294967295

-- EVT-2: ports and chargers that can be registered
abbrev pub max_ports : ℕ
max_ports = 16

abbrev pub max_chargers : ℕ
max_chargers = 8

-- DEM-1a, PKT-9: device orders of an event, 3 + 4 × chargers
abbrev pub max_orders : ℕ
max_orders = 35

-- PKT-8: notices of an event
abbrev pub max_notices : ℕ
max_notices = 4

-- FOL-5, FOL-6: a follower that shows n takes packets of the events up to n + window; beyond, it is lost
abbrev pub window : ℕ
window = 8

-- SHP-8, SHP-10, SHP-11: bytes of the records of a port and of a charger, and of both images
abbrev pub psu_length : ℕ
psu_length = 18

abbrev pub charger_length : ℕ
charger_length = 7

abbrev pub service_length : ℕ
service_length = 67

abbrev pub follower_length : ℕ
follower_length = 241

-- REF-29, PRG-1: bytes of a buffer that every packet and picture fits in, and of the longest packet of a stream
abbrev pub buffer_length : ℕ
buffer_length = 64

-- S1-1, REF-34: bytes of a page: six lines of 40 columns and a newline
abbrev pub page_length : ℕ
page_length = 246
