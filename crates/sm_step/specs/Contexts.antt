-- Changes of a context, which the moves of `sm_rule` are made of.
use Rattle.std.specs.Prelude.{ℕ, ◌+◌, ◌<◌, List, [], ◌∷◌, ◌++◌, take, drop, length, Option, Some, None, option_map, slice_get, slice_set}
use Rattle.ty_prog.specs.Tree.{Tree, children}
use Rattle.sm_state.specs.declared.thread.Context.{Context}
use Rattle.sm_state.specs.declared.thread.Level.{Level}
use Rattle.sm_state.specs.declared.value.Value.{Value}
use Rattle.sm_step.specs.declared.site.Climb.{Climb}
use Rattle.sm_step.specs.declared.site.Rest.{Rest}
use Rattle.sm_step.specs.declared.site.Rest.TheVariants as rest
use Rattle.sm_step.specs.declared.site.Site.{Site}

-- the node of a level, or else the one at which the context stands
abbrev pub level_node : Tree → Option Level → Tree
level_node node None = node
level_node node (Some l) = l.node

-- the node of the level with this number, counted from the innermost; the context's own where none is named
abbrev pub node_up : Context → Option ℕ → Tree
node_up c None = c.node
node_up c (Some at) = level_node c.node (slice_get c.levels at)

-- the levels above the one with this number; all where none is named
abbrev pub levels_up : List Level → Option ℕ → List Level
levels_up levels None = levels
levels_up levels (Some at) = drop (at + 1) levels

-- the context where the node of the level with this number has ended, after so many operands were dropped; where none is
-- named it stands where it stood
abbrev pub climbed : Climb → Context → Context
climbed w c = record c { node = node_up c w.to; levels = levels_up c.levels w.to; operands = drop w.taken c.operands }

-- the context at the node `next`, which is a child of the node of the level with this number. The latest `new` operands
-- stay; n are dropped below them
abbrev pub turned : ℕ → ℕ → ℕ → ℕ → Tree → Context → Context
turned at n new child next c = record c {
  node = next;
  levels = record { node = node_up c (Some at); child = child } ∷ drop (at + 1) c.levels;
  operands = take new c.operands ++ drop n (drop new c.operands);
}

-- the same for the child with this number, if there is one
abbrev pub at_child_of : ℕ → ℕ → ℕ → ℕ → Context → Option Context
at_child_of at n new child c = option_map (λ next. turned at n new child next c) (slice_get (children (node_up c (Some at))) child)

-- ---- where a node moves

-- the context as it stands, and as it is where the node has ended
abbrev pub stands : Site → Context → Context
stands s c = climbed s.stand c

abbrev pub ends : Site → Context → Context
ends s c = climbed (record { to = Some s.at; taken = s.taken }) c

-- the context where an act has given its value: the node has ended, or stands below itself
abbrev pub rested : Rest → Context → Context
rested (rest.Over w) c = climbed w c
rested (rest.Below at n new child) c = turned at n new child (node_up c (Some at)) c

-- a node that stands below itself is that of a level that is there
abbrev pub IsIn : Rest → List Level → Type 0
IsIn (rest.Over w) levels = Unit {0}
IsIn (rest.Below at n new child) levels = at < length levels

-- the context without the operands that are new
abbrev pub without : ℕ → Context → Context
without n c = record c { operands = drop n c.operands }

abbrev pub new_of : Rest → ℕ
new_of (rest.Over w) = 0
new_of (rest.Below at n new child) = new

abbrev pub with_local : ℕ → Value → Context → Context
with_local local v c = record c { locals = slice_set c.locals local (Some v) }

abbrev pub with_this : Value → Context → Context
with_this v c = record c { this = v }
