-- In every state that a run comes to all threads stand at nodes of the parts of their contexts.
use Rattle.std.proofs.Common.{◌≡◌, ℕ, suc, nat_eq, Bool, true, false, if◌then◌else◌, List, [], ◌∷◌, codes, Option, Some, None, option_map, slice_get, refl, ap, sym, ◌∙◌}
use Rattle.std.specs.Option.{option_and_then}
use Rattle.runs.specs.declared.turn.Turn.{Turn}
use Rattle.runs.specs.System.{Next, Goes, Waits, Ended, Stuck, KeptBy, reach}
use Rattle.runs.specs.SharedHeap.{HeapState, threads_with, stepped}
use Rattle.runs.specs.System as system
use Rattle.runs.proofs.Keeping.{kept_by_runs}
use Rattle.ty_prog.specs.Find.{find}
use Rattle.ty_prog.specs.Node.{tree_at}
use Rattle.ty_prog.specs.Tree.{Tree, children}
use Rattle.ty_prog.proofs.Places.{place_child}
use Rattle.sm_state.specs.declared.thread.Level.{Level}
use Rattle.ty_prog.specs.declared.class.Class.{Class}
use Rattle.ty_prog.specs.declared.method.Method.{Method}
use Rattle.ty_prog.specs.declared.program.Program.{Program}
use Rattle.sm_state.specs.declared.entry.Body.{Body}
use Rattle.sm_state.specs.declared.heap.Heap.{Heap}
use Rattle.sm_state.specs.declared.part.Part.TheVariants as part
use Rattle.sm_state.specs.declared.thread.Thread.{Thread}
use Rattle.sm_state.specs.Entering.{method_body, body_in, body_of, entered, main_entry, main_in, method_at, main_context, begun_thread}
use Rattle.sm_rule.specs.Step.{After, step}
use Rattle.sm_rule.specs.Machine.{first_threads, meaning}
use Rattle.sm_placed.specs.Placed.{StandsBelow, place_of, ThreadPlaced, BegunPlaced, AfterPlaced}
use Rattle.sm_placed.proofs.Carrying.{entered_at, next_placed}

abbrev Threads : Program → HeapState Heap Thread → Type 0
Threads p s = (t : ℕ) → ThreadPlaced p (s.threads t)

put_placed : (p : Program) (t : ℕ) (th : Thread) (threads : ℕ → Thread) → ThreadPlaced p th → ((u : ℕ) → ThreadPlaced p (threads u)) → (u : ℕ) → ThreadPlaced p (system.put t th threads u)
put_placed p t th threads one all u = on (nat_eq u t)
  where
    on : (b : Bool) → ThreadPlaced p (if b then th else threads u)
    on true = one
    on false = all u

begun_placed : (p : Program) (n : ℕ) (o : Option Thread) (threads : ℕ → Thread) → BegunPlaced p o → ((u : ℕ) → ThreadPlaced p (threads u)) → (u : ℕ) → ThreadPlaced p (threads_with n o threads u)
begun_placed p n None threads one all u = all u
begun_placed p n (Some th) threads one all u = put_placed p (suc n) th threads one all u

kept_placed : (p : Program) (s : HeapState Heap Thread) (t : ℕ) → Threads p s → (x : After) → AfterPlaced p x → KeptBy (Threads p) (stepped t s x)
kept_placed p s t all (Goes x) after = λ u. begun_placed p s.count x.begun (system.put t x.thread s.threads) after.1 (put_placed p t x.thread s.threads after.0 all) u
kept_placed p s t all Waits after = tt
kept_placed p s t all Ended after = tt
kept_placed p s t all Stuck after = tt

-- ---- places

pub stands_at : (root node : Tree) (levels : List Level) → StandsBelow root node levels → tree_at root (place_of levels) ≡ Some node
stands_at root node [] stands = ap Some (sym stands)
stands_at root node (l ∷ levels) stands =
    place_child root (place_of levels) l.child ∙ ap (option_and_then (λ tree. slice_get (children tree) l.child)) (stands_at root l.node levels stands.1) ∙ stands.0

-- ---- the first state

main_at : (p : Program) (class method : ℕ) (m : Method) → body_of p class (part.Method method) ≡ method_body m → (o : Option Body) → method_body m ≡ o → ThreadPlaced p (begun_thread (option_map (entered (main_entry class method m)) o))
main_at p class method m is None e = tt
main_at p class method m is (Some b) e = (entered_at p (main_entry class method m) b (is ∙ e), tt)

method_found : (p : Program) (class method : ℕ) (m : Method) → method_at p class method ≡ Some m → body_of p class (part.Method method) ≡ method_body m
method_found p class method m = on (slice_get p.classes class)
  where
    on : (o : Option Class) → option_and_then (λ c. slice_get c.methods method) o ≡ Some m → option_and_then (λ c. body_in c (part.Method method)) o ≡ method_body m
    on None e = absurd (cc)
    on (Some c) e = ap (option_and_then method_body) e

main_placed : (p : Program) (class method : ℕ) (o : Option Method) → method_at p class method ≡ o → ThreadPlaced p (begun_thread (option_and_then (main_in class method) o))
main_placed p class method None e = tt
main_placed p class method (Some m) e = main_at p class method m (method_found p class method m e) (method_body m) refl

found_placed : (p : Program) (o : Option (ℕ × ℕ)) → ThreadPlaced p (begun_thread (option_and_then (λ found. option_and_then (main_in found.0 found.1) (method_at p found.0 found.1)) o))
found_placed p None = tt
found_placed p (Some found) = main_placed p found.0 found.1 (method_at p found.0 found.1) refl

first_placed : (p : Program) (t : ℕ) → ThreadPlaced p (first_threads p t)
first_placed p t = on (nat_eq t 1)
  where
    on : (b : Bool) → ThreadPlaced p (if b then begun_thread (main_context p) else begun_thread None)
    on true = found_placed p (find p p.main (codes "main"))
    on false = tt

pub moves_placed : (p : Program) (t : ℕ) (heap : Heap) (thread : Thread) → ThreadPlaced p thread → AfterPlaced p (step p t heap thread)
moves_placed p t heap thread placed = next_placed p heap t thread.contexts thread.value thread.thrown placed

pub reached_placed : (p : Program) (turns : List Turn) (t : ℕ) → ThreadPlaced p ((reach (meaning p) turns).state.threads t)
reached_placed p turns t =
    kept_by_runs (meaning p) (Threads p) (λ s u all. kept_placed p s u all (step p u s.heap (s.threads u)) (moves_placed p u s.heap (s.threads u) (all u))) (first_placed p) turns t
