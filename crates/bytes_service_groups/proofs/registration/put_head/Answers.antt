-- The three parts are stored one after the other.
use Rattle.bytes_service_groups.proofs.registration.put_head.Goals as goal

pub returns : goal.returns
returns c =
    rw (c.put-3.ensures, c.put-2.ensures, c.put.ensures, c.bytes-2.ensures, c.from-2.ensures, c.bytes.ensures, c.from.ensures)
