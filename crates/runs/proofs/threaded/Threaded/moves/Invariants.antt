use Rattle.std.proofs.Common.{◌≡◌}
use Rattle.runs.specs.Made.{Made}
use Rattle.runs.proofs.threaded.Threaded.moves.Given as goal

abbrev pub invariant-loop-made : goal.invariant-loop-made
invariant-loop-made g l =
    (g.Self.Standing.system l.self ≡ g.Self.Standing.system l.fn.self)
    × Made (g.Self.Standing.system l.fn.self) l.thread l.made (g.Self.Standing.state l.fn.self) l.made (g.Self.Standing.state l.self)
