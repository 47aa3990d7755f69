-- An act claims a cell where it reads an empty one, and enters its initialiser; nothing else claims cells.
use Rattle.std.proofs.Common.{◌≡◌, ℕ, ◌==◌, ◌⊎◌, inl, inr, Bool, true, false, if◌then◌else◌, List, [], ◌∷◌, codes, Option, Some, None, slice_get, refl}
use Rattle.ty_prog.specs.Find.{find, super_find}
use Rattle.ty_prog.specs.declared.method.Method.{Method}
use Rattle.ty_prog.specs.declared.program.Program.{Program}
use Rattle.ty_prog.specs.declared.ty.Ty.{Ty}
use Rattle.ty_prog.specs.declared.ty.Ty.TheVariants as ty
use Rattle.sm_state.specs.Entering.{method_at}
use Rattle.sm_state.specs.Layout.{linear_of, field_number, cell_number}
use Rattle.sm_state.specs.declared.entry.Entry.{Entry}
use Rattle.sm_state.specs.declared.heap.Heap.{Heap}
use Rattle.sm_state.specs.declared.heap.Object.{Object}
use Rattle.sm_state.specs.declared.module.Module.{Module}
use Rattle.sm_state.specs.declared.module.Module.TheVariants as modules
use Rattle.sm_state.specs.declared.once.Once.{Once}
use Rattle.sm_state.specs.declared.once.Once.TheVariants as once
use Rattle.sm_state.specs.declared.value.Value.{Value}
use Rattle.sm_state.specs.declared.value.Value.TheVariants as value
use Rattle.sm_rule.specs.declared.act.Act.{Act}
use Rattle.sm_rule.specs.declared.act.Act.TheVariants as act
use Rattle.sm_rule.specs.declared.answer.Answer.{Answer}
use Rattle.sm_rule.specs.declared.answer.Answer.TheVariants as answer
use Rattle.sm_rule.specs.declared.answer.Edit.{Edit}
use Rattle.sm_rule.specs.declared.answer.Edit.TheVariants as edit
use Rattle.sm_rule.specs.Values.{same}
use Rattle.sm_rule.specs.Perform
use Rattle.sm_cells.proofs.Editing.{ClaimsNone, made_at_rest}

-- the edit claims a cell for t, and the initialiser of this cell is entered
pub record Claim (p : Program) (h : Heap) (t : ℕ) (change : Edit) (entry : Entry) : Type 0 where
  pub object : ℕ
  pub cell : ℕ
  pub at : ℕ
  pub of : Object
  pub there : slice_get h.objects object ≡ Some of
  pub number : cell_number p.classes of.class entry.class cell ≡ Some at
  pub edit_is : change ≡ edit.Cell object at (once.Running t)
  pub entry_is : entry ≡ Perform.init_entry entry.class cell object

abbrev pub Claims : Program → Heap → ℕ → Answer → Type 0
Claims p h t (answer.Gives change v) = ClaimsNone change
Claims p h t (answer.Enters change entry) = ClaimsNone change ⊎ Claim p h t change entry
Claims p h t (answer.Starts change entry) = ClaimsNone change
Claims p h t (answer.Throws class message) = Unit {0}
Claims p h t answer.Waits = Unit {0}
Claims p h t answer.Wrong = Unit {0}

module _ (p : Program) (h : Heap) (t : ℕ) where
  abbrev Fine : Answer → Type 0
  Fine = Claims p h t

  either : (b : Bool) (one other : Answer) → Fine one → Fine other → Fine (if b then one else other)
  either true one other x y = x
  either false one other x y = y

  with_object : (f : ℕ → Object → Answer) (r : ℕ) → ((o : Object) → slice_get h.objects r ≡ Some o → Fine (f r o)) → (x : Option Object) → slice_get h.objects r ≡ x → Fine (Perform.with_object f r x)
  with_object f r each None is = tt
  with_object f r each (Some o) is = each o is

  of_object : (v : Value) (f : ℕ → Object → Answer) → ((r : ℕ) (o : Object) → slice_get h.objects r ≡ Some o → Fine (f r o)) → Fine (Perform.of_object h v f)
  of_object (value.Ref r) f each = with_object f r (each r) (slice_get h.objects r) refl
  of_object value.Null f each = tt
  of_object value.Unit f each = tt
  of_object _ f each = tt

  with_first : (f : Value → List (Option Value) → Answer) → ((v : Value) (args : List (Option Value)) → Fine (f v args)) → (args : List (Option Value)) → Fine (Perform.with_first f args)
  with_first f each [] = tt
  with_first f each (None ∷ args) = tt
  with_first f each (Some v ∷ args) = each v args

  given : (o : Option Value) → Fine (Perform.value_or_wrong o)
  given None = tt
  given (Some v) = tt

  read : (o : Object) (x : Option ℕ) → Fine (Perform.read o x)
  read o None = tt
  read o (Some at) = given (slice_get o.fields at)

  written : (r : ℕ) (v : Value) (x : Option ℕ) → Fine (Perform.written r v x)
  written r v None = tt
  written r v (Some at) = tt

  exchanged_if : (r at : ℕ) (new : Value) (b : Bool) → Fine (Perform.exchanged_if r at new b)
  exchanged_if r at new true = tt
  exchanged_if r at new false = tt

  exchanged_at : (r at : ℕ) (old new : Value) (x : Option Value) → Fine (Perform.exchanged_at r at old new x)
  exchanged_at r at old new None = tt
  exchanged_at r at old new (Some v) = exchanged_if r at new (same old v)

  exchanged : (r : ℕ) (o : Object) (old new : Value) (x : Option ℕ) → Fine (Perform.exchanged r o old new x)
  exchanged r o old new None = tt
  exchanged r o old new (Some at) = exchanged_at r at old new (slice_get o.fields at)

  cell_read : (class cell r at : ℕ) (o : Object) → slice_get h.objects r ≡ Some o → cell_number p.classes o.class class cell ≡ Some at → (x : Option Once) → Fine (Perform.cell_read t class cell r at x)
  cell_read class cell r at o there numbered None = tt
  cell_read class cell r at o there numbered (Some once.Empty) = inr (record { object = r; cell = cell; at = at; of = o; there = there; number = numbered; edit_is = refl; entry_is = refl })
  cell_read class cell r at o there numbered (Some (once.Running u)) = either (u == t) _ answer.Waits tt tt
  cell_read class cell r at o there numbered (Some (once.Done v)) = tt

  cell_read_at : (class cell r : ℕ) (o : Object) → slice_get h.objects r ≡ Some o → (x : Option ℕ) → cell_number p.classes o.class class cell ≡ x → Fine (Perform.cell_read_at t class cell r o x)
  cell_read_at class cell r o there None numbered = tt
  cell_read_at class cell r o there (Some at) numbered = cell_read class cell r at o there numbered (slice_get o.cells at)

  module_read : (class : ℕ) (x : Option Module) → Fine (Perform.module_read t class x)
  module_read class None = tt
  module_read class (Some modules.NotYet) = inl tt
  module_read class (Some (modules.Running u at)) = either (u == t) (Perform.gives at) answer.Waits tt tt
  module_read class (Some (modules.Ready v)) = tt
  module_read class (Some modules.Bad) = tt

  module_set : (class : ℕ) (v : Value) (x : Option Module) → Fine (Perform.module_set class v x)
  module_set class v None = tt
  module_set class v (Some modules.NotYet) = tt
  module_set class v (Some (modules.Running u at)) = tt
  module_set class v (Some (modules.Ready w)) = tt
  module_set class v (Some modules.Bad) = tt

  enters : (this : Value) (args : List (Option Value)) (x : Option (ℕ × ℕ)) → Fine (Perform.enters this args x)
  enters this args None = tt
  enters this args (Some found) = inl tt

  enters_on : (class method : ℕ) (v : Value) (args : List (Option Value)) → Fine (Perform.enters_on class method v args)
  enters_on class method (value.Ref r) args = inl tt
  enters_on class method value.Null args = tt
  enters_on class method value.Unit args = tt
  enters_on class method _ args = tt

  directly : (class method : ℕ) (args : List (Option Value)) (x : Option Method) → Fine (Perform.directly class method args x)
  directly class method args None = tt
  directly class method args (Some m) =
      either m.is_static (Perform.enters value.Unit args (Some (class, method))) (Perform.with_first (Perform.enters_on class method) args) (inl tt)
      (with_first (Perform.enters_on class method) (enters_on class method) args)

  constructs_above : (this : Value) (args : List (Option Value)) (x : Option ℕ) → Fine (Perform.constructs_above this args x)
  constructs_above this args None = tt
  constructs_above this args (Some class) = inl tt

  equals_called : (r : ℕ) (other : Value) (x : Option (ℕ × ℕ)) → Fine (Perform.equals_called r other x)
  equals_called r other None = tt
  equals_called r other (Some found) = inl tt

  compared : (one other : Value) → Fine (Perform.compared p h one other)
  compared (value.Ref r) other = of_object (value.Ref r) (λ r o. Perform.equals_called r other (find p o.class (codes "equals"))) (λ r o is. equals_called r other (find p o.class (codes "equals")))
  compared value.Unit other = tt
  compared _ other = tt

  equals_answer : (one other : Value) → Fine (Perform.equals_answer p h one other)
  equals_answer value.Null other = tt
  equals_answer value.Unit other = tt
  equals_answer (value.Ref r) other = compared (value.Ref r) other
  equals_answer _ other = tt

  text_or_wrong : (x : Option (List ℕ)) → Fine (Perform.text_or_wrong x)
  text_or_wrong None = tt
  text_or_wrong (Some text) = tt

  text_called : (r : ℕ) (o : Object) (x : Option (ℕ × ℕ)) → Fine (Perform.text_called p r o x)
  text_called r o None = text_or_wrong (Perform.class_name p o.class)
  text_called r o (Some found) = inl tt

  text_answer : (v : Value) → Fine (Perform.text_answer p h v)
  text_answer (value.Ref r) = of_object (value.Ref r) (λ r o. Perform.text_called p r o (find p o.class (codes "toString"))) (λ r o is. text_called r o (find p o.class (codes "toString")))
  text_answer value.Unit = tt
  text_answer _ = tt

  to_string_answer : (v : Value) → Fine (Perform.to_string_answer p h v)
  to_string_answer value.Null = tt
  to_string_answer (value.Ref r) = text_answer (value.Ref r)
  to_string_answer value.Unit = tt
  to_string_answer _ = tt

  fitting : (to : Ty) (v : Value) → Fine (Perform.fitting p h to v)
  fitting to v = either (Perform.fits p h to v) (Perform.gives v) Perform.bad_cast tt tt

  to_int : (v : Value) → Fine (Perform.converted p h ty.Int v)
  to_int (value.Long n) = tt
  to_int value.Null = tt
  to_int value.Unit = fitting ty.Int value.Unit
  to_int (value.Bool b) = fitting ty.Int (value.Bool b)
  to_int (value.Int n) = fitting ty.Int (value.Int n)
  to_int (value.Text x) = fitting ty.Int (value.Text x)
  to_int (value.Ref r) = fitting ty.Int (value.Ref r)
  to_int (value.Latch at owner) = fitting ty.Int (value.Latch at owner)
  to_int (value.Evaluating u) = fitting ty.Int (value.Evaluating u)
  to_int value.NullValue = fitting ty.Int value.NullValue

  to_long : (v : Value) → Fine (Perform.converted p h ty.Long v)
  to_long (value.Int n) = tt
  to_long value.Null = tt
  to_long value.Unit = fitting ty.Long value.Unit
  to_long (value.Bool b) = fitting ty.Long (value.Bool b)
  to_long (value.Long n) = fitting ty.Long (value.Long n)
  to_long (value.Text x) = fitting ty.Long (value.Text x)
  to_long (value.Ref r) = fitting ty.Long (value.Ref r)
  to_long (value.Latch at owner) = fitting ty.Long (value.Latch at owner)
  to_long (value.Evaluating u) = fitting ty.Long (value.Evaluating u)
  to_long value.NullValue = fitting ty.Long value.NullValue

  converted : (to : Ty) (v : Value) → Fine (Perform.converted p h to v)
  converted ty.Int v = to_int v
  converted ty.Long v = to_long v
  converted ty.Any value.Null = tt
  converted to value.Null = tt
  converted ty.Any v = fitting ty.Any v
  converted to v = fitting to v

  match_error : (x : Option (List ℕ)) → Fine (Perform.match_error x)
  match_error None = tt
  match_error (Some name) = tt

  starts_if : (r at : ℕ) (x : Option Entry) → Fine (Perform.starts_if r at x)
  starts_if r at None = tt
  starts_if r at (Some entry) = tt

  starts_in : (r at q : ℕ) (x : Option Object) → Fine (Perform.starts_in p r at q x)
  starts_in r at q None = tt
  starts_in r at q (Some o) = starts_if r at (Perform.run_entry q (find p o.class (codes "run")))

  starts_on : (r at : ℕ) (x : Option Value) → Fine (Perform.starts_on p h r at x)
  starts_on r at None = tt
  starts_on r at (Some value.Null) = tt
  starts_on r at (Some (value.Ref q)) = starts_in r at q (slice_get h.objects q)
  starts_on r at (Some value.Unit) = tt
  starts_on r at (Some _) = tt

  starts_bool : (r at : ℕ) (b : Bool) (target : Option Value) → Fine (Perform.starts_fresh p h r at (Some (value.Bool b)) target)
  starts_bool r at true target = tt
  starts_bool r at false target = starts_on r at target

  starts_fresh : (r at : ℕ) (x target : Option Value) → Fine (Perform.starts_fresh p h r at x target)
  starts_fresh r at None target = tt
  starts_fresh r at (Some (value.Bool b)) target = starts_bool r at b target
  starts_fresh r at (Some value.Unit) target = tt
  starts_fresh r at (Some _) target = tt

  starts : (r : ℕ) (o : Object) (x : Option ℕ) → Fine (Perform.starts p h r o x)
  starts r o None = tt
  starts r o (Some at) = starts_fresh r at (slice_get o.fields at) _

  latch_made : (v : Value) → Fine (Perform.latch_made h v)
  latch_made (value.Evaluating u) = tt
  latch_made value.Unit = tt
  latch_made _ = tt

  awaited : (x : Option Bool) → Fine (Perform.awaited x)
  awaited None = tt
  awaited (Some true) = tt
  awaited (Some false) = tt

  latch_awaited : (v : Value) → Fine (Perform.latch_awaited h v)
  latch_awaited (value.Latch at u) = awaited (slice_get h.latches at)
  latch_awaited value.Null = tt
  latch_awaited value.Unit = tt
  latch_awaited _ = tt

  latch_opened : (v : Value) → Fine (Perform.latch_opened v)
  latch_opened (value.Latch at u) = tt
  latch_opened value.Null = tt
  latch_opened value.Unit = tt
  latch_opened _ = tt

  pub performs : (a : Act) → Claims p h t (Perform.perform p h t a)
  performs (act.Read of class field) = of_object of (λ r o. Perform.read o (field_number p.classes o.class class field)) (λ r o is. read o (field_number p.classes o.class class field))
  performs (act.Write of class field new) = of_object of (λ r o. Perform.written r new (field_number p.classes o.class class field)) (λ r o is. written r new (field_number p.classes o.class class field))
  performs (act.Exchange of class field old new) =
      of_object of (λ r o. Perform.exchanged r o old new (field_number p.classes o.class class field)) (λ r o is. exchanged r o old new (field_number p.classes o.class class field))
  performs (act.ReadCell of class cell) =
      of_object of (λ r o. Perform.cell_read_at t class cell r o (cell_number p.classes o.class class cell)) (λ r o is. cell_read_at class cell r o is (cell_number p.classes o.class class cell) refl)
  performs (act.ReadModule class) = module_read class (slice_get h.modules class)
  performs (act.SetModule class of) = module_set class of (slice_get h.modules class)
  performs (act.Call class method args) =
      with_first (λ this rest. Perform.of_object h this (λ r o. Perform.enters (value.Ref r) rest (Perform.selected p o.class (method_at p class method))))
      (λ this rest. of_object this (λ r o. Perform.enters (value.Ref r) rest (Perform.selected p o.class (method_at p class method))) (λ r o is. enters (value.Ref r) rest (Perform.selected p o.class (method_at p class method)))) args
  performs (act.CallSuper after name this args) = of_object this (λ r o. Perform.enters (value.Ref r) args (super_find p o.class after name)) (λ r o is. enters (value.Ref r) args (super_find p o.class after name))
  performs (act.CallDirectly class method args) = directly class method args (method_at p class method)
  performs (act.Make class) = made_at_rest p.classes (linear_of p.classes class)
  performs (act.Construct class args) = with_first (λ this rest. answer.Enters edit.Nothing (Perform.constructor_entry class this rest)) (λ this rest. inl tt) args
  performs (act.ConstructAbove class this args) = constructs_above this args (Perform.superclass p class)
  performs (act.Compare one other) = compared one other
  performs (act.CallEquals one other) = equals_answer one other
  performs (act.TextOf v) = text_answer v
  performs (act.CallToString v) = to_string_answer v
  performs (act.NameClass v) = text_or_wrong (Perform.name_of p h v)
  performs (act.Convert to of) = converted to of
  performs (act.Test of test) = tt
  performs (act.Unmatched v) = match_error (Perform.name_of p h v)
  performs (act.Print text) = tt
  performs (act.Start v) = of_object v (λ r o. Perform.starts p h r o (field_number p.classes o.class 1 1)) (λ r o is. starts r o (field_number p.classes o.class 1 1))
  performs act.Mine = tt
  performs (act.MakeLatch v) = latch_made v
  performs (act.IsMine v) = tt
  performs (act.Await v) = latch_awaited v
  performs (act.CountDown v) = latch_opened v
