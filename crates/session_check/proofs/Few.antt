-- Tables that obey have as many places as nodes.
use Rattle.std.specs.Prelude.{◌≡◌, true, ◌≤◌}
use Rattle.machine.specs.Broken.{tables_obey}
use Rattle.machine.specs.declared.Document.{Document}
use Rattle.machine.proofs.SoundTables.{sound}

pub few_nodes : (d : Document) → tables_obey d ≡ true → d.nodes.count ≤ 64
few_nodes d obey = (sound d obey).nodes.few
