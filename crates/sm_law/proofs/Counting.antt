-- Both programs enter and end as many initialisers of cells, where parts keep their kind.
use Rattle.std.proofs.Common.{◌≡◌, ℕ, arith, List, [], ◌∷◌, refl, ap, sym, ◌∙◌}
use Rattle.runs.specs.System.{Goes}
use Rattle.runs.specs.SharedHeap.{Stepped}
use Rattle.ty_prog.specs.declared.program.Program.{Program}
use Rattle.sm_state.specs.declared.entry.Entry.{Entry}
use Rattle.sm_state.specs.declared.heap.Heap.{Heap}
use Rattle.sm_state.specs.declared.part.Part.{Part}
use Rattle.sm_state.specs.declared.thread.Thread.{Thread}
use Rattle.sm_state.specs.declared.value.Value.{Value}
use Rattle.sm_rule.specs.Machine.{init_count, running_inits, difference, inits_of}
use Rattle.sm_law.specs.Passes.{Pass, Pair, Plain, Extra, Before, ups, lows, AllFit, Threads, up_thread, low_thread}
use Rattle.sm_law.specs.Copies.{Matched}

-- initialisers of cells stay such parts, and no other part becomes one
pub record KeepsInits {X : Type 0} (P : Pass X) : Type 0 where
  pub parts : (class : ℕ) (part : Part) → init_count (P.part_below class part) ≡ init_count part
  pub extras : (x : X) → init_count (P.extra x).part ≡ 0
  pub entries : (e f : Entry) → P.Ahead e f → init_count f.part ≡ init_count e.part

module _ {X : Type 0} (P : Pass X) (p q : Program) (keeps : KeepsInits P) where
  -- as many contexts are in initialisers
  pub running_alike : (es : List (Pair X)) → AllFit P p q es → running_inits (lows P es) ≡ running_inits (ups es)
  running_alike [] fit = refl
  running_alike (Plain w ∷ es) fit = rw (keeps.parts w.class w.part, running_alike es fit.1) refl
  running_alike (Extra x ∷ es) fit = rw (keeps.extras x, running_alike es fit.1) (omega arith)
  running_alike (Before e b f c ∷ es) fit = rw (keeps.entries e f fit.0.0, running_alike es fit.1) refl

  -- THE LAW, of how many a move enters and ends
  pub copied_inits : {Heaps : Heap → Heap → Type 0} (g : Threads X) → AllFit P p q g.pairs → (most class : ℕ) (part : Part) (this : Value) (es : List (Pair X)) (x y : Stepped Heap Thread)
      → Matched P Heaps p q most class part this es x y → inits_of (low_thread P g) (Goes y) ≡ inits_of (up_thread g) (Goes x)
  copied_inits g fit most class part this es x y m =
      rw (running_alike g.pairs fit) (ap (λ n. difference (running_inits (ups g.pairs)) n) (ap (λ th. running_inits th.contexts) m.low ∙ running_alike m.threads.pairs m.fit.0 ∙ sym (ap (λ th. running_inits th.contexts) m.up)))
