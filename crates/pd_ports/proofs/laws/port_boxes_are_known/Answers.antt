use Rattle.pd_ports.proofs.KnownLemmas.{had_known, known_had, known_found}
use Rattle.pd_ports.proofs.laws.port_boxes_are_known.Goals as goal

pub returns-clause-known : goal.returns-clause-known
returns-clause-known c = λ g w own alone ports homes homes_found. had_known g w ports own alone homes homes_found

pub returns-clause-homes : goal.returns-clause-homes
returns-clause-homes c = λ g w ports known j k i h. known_had g w ports known j k i h

pub returns-clause-homes_found : goal.returns-clause-homes_found
returns-clause-homes_found c = λ g w ports known j k i is. known_found g w ports known j k i is
