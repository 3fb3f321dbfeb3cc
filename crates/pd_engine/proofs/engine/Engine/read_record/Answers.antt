use Rattle.pd_engine.proofs.RewireLemmas.{found_more}
use Rattle.pd_engine.proofs.engine.Engine.read_record.Goals as goal

pub invariant_of-self : goal.invariant_of-self
invariant_of-self c =
    let e = c.args.self.now in
    record {
      puts = e.puts;
      meet = e.meet;
      counted = e.counted;
      within = e.within;
      zero = e.zero;
      found = found_more e.symbols c.read_by.new.symbols e.library c.read_by.ensures.extends c.read_by.ensures.table c.read_by.ensures.table_after e.found;
    }
