-- What the check leaves open of `document_front::load_front`. Assumes nothing.
use Rattle.std.proofs.Common.{◌∙◌, arith, length}
use Rattle.document_front.proofs.Front.{load_front, loaded_unbroken}
use Rattle.document_front.proofs.load_front.Goals as goal

pub returns : goal.returns
returns c =
    let loaded = c.load.ensures in
    record {
      loaded = λ document same. loaded ∙ rw same (load_front (length c.args.front.now) (omega arith) document);
      unbroken = loaded_unbroken _ _ loaded;
    }
