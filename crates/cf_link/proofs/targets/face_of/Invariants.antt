use Rattle.std.proofs.Common.{◌≡◌, drop}
use Rattle.cf_link.specs.TableSlots.{face_of}
use Rattle.cf_link.proofs.targets.face_of.Given as goal

abbrev pub invariant-loop-face : goal.invariant-loop-face
invariant-loop-face l = face_of (drop l.face-index l.faces) l.of ≡ face_of l.faces l.of
