use Rattle.pd_doc.proofs.DocumentLaws.{written_back}
use Rattle.pd_doc.proofs.laws.written_read.Goals as goal

pub returns : goal.returns
returns c names p t g = written_back names (record {
  table = t;
  stands = c.one_reading.ensures.only;
  spaces = c.one_reading.ensures.spaces;
  units = c.escapes_read.ensures.units;
  bytes = c.escapes_read.ensures.name;
  some = λ a o h. c.spellings_read.ensures.some names a t o h;
  short = λ a o h. c.spellings_read.ensures.short names a t o h;
  holds = λ a s. c.settled_laws.ensures.number names a s;
  number = c.printed_again.ensures.read;
}) p g
