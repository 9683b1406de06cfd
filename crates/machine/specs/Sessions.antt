-- The session that is known not to be broken, as the definitions take it.
use Rattle.machine.specs.declared.Session.{Session}
use Rattle.machine.specs.declared.sound.UnbrokenSession.{UnbrokenSession}

abbrev pub session_of : UnbrokenSession → Session
session_of s = record { document = s.document.document; state = s.state }
