-- "it is a broken one": the empty session, which a refused load returns.
use mathlib.Core.Path.{◌≡◌, refl}
use mathlib.Core.Bool.{true}
use Rattle.machine.specs.Tables.{empty_document, empty_session}
use Rattle.machine.specs.Broken.{tables_obey, broken}

pub empty_session_broken : broken empty_session ≡ true
unfolding broken tables_obey empty_session empty_document
empty_session_broken = refl
