-- Ours, by the definitions of the calls (crates/bytes_calls). The contracts of the exported functions cite this record (crates/power_policy/src/lib.rt): what
-- the code does and what is claimed are tied there.
use Rattle.abstract_calls.specs.Functions.{Functions, config_of}
use Rattle.bytes_service_image.specs.Image.{service_from}
use Rattle.bytes_follower_image.specs.Image.{follower_from}
use Rattle.bytes_calls.specs.Calls.{start_call, open_call, answer_call, order_call, write_packet_call, write_picture_call, follower_start_call, take_call, shown_call, consumer_call, tracked_call, write_page_call}

abbrev pub functions : Functions
functions = record {
  start = λ image a. start_call image (config_of a) a.ports a.chargers;
  open_event = λ image psus chargers kind device detail. open_call image psus chargers kind device detail;
  answer = λ image psus chargers a. answer_call image psus chargers a;
  order = λ image. order_call (service_from image);
  write_packet = λ image buffer. write_packet_call (service_from image) buffer;
  write_picture = λ image buffer. write_picture_call (service_from image) buffer;
  follower_start = λ image. follower_start_call image;
  take = λ image packet. take_call image packet;
  shown = λ image. shown_call (follower_from image);
  consumer = λ image. consumer_call (follower_from image);
  tracked = λ image. tracked_call (follower_from image);
  write_page = λ image buffer. write_page_call (follower_from image) buffer;
}
