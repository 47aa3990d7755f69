-- What makes a program complete, part by part, on what SLS 4, 5 and 6.10 ask and what class files can hold (JVMS 4).
use Rattle.std.specs.Prelude.{◌≡◌, ◌≢◌, ℕ, ◌≤◌, Bool, true, false, IsTrue, IsSome, not, ◌&&◌, ◌||◌, List, [], ◌∷◌, ◌++◌, Option, Some, None, length, take, drop, map, codes, nat_eq, nat_le, slice_get, option_map, option_and_then}
use Rattle.std.specs.List.{All, AllPairs, list_any, list_all, Contains, slice_split}
use Rattle.std.specs.Option.{unwrap_or}
use Rattle.std.specs.Str.{bytes_eq}
use Rattle.ty_prog.specs.declared.class.Class.{Class}
use Rattle.ty_prog.specs.declared.method.Method.{Method}
use Rattle.ty_prog.specs.declared.kind.Kind.{Kind}
use Rattle.ty_prog.specs.declared.kind.Kind.TheVariants as kind
use Rattle.ty_prog.specs.declared.ty.Ty.{Ty}
use Rattle.ty_prog.specs.declared.ty.Ty.TheVariants as ty
use Rattle.ty_prog.specs.declared.program.Program.{Program}
use Rattle.ty_prog.specs.Find.{find, super_find}
use Rattle.ty_prog.specs.Prelude.{prelude}
use Rattle.ty_prog.specs.declared.expr.Expr.{out-Expr}
use Rattle.ty_prog.specs.declared.pattern.Pattern.{out-Pattern}
use Rattle.ty_prog.specs.declared.catch.Catch.TheOpen.{Expr-F, Pattern-F}
use Rattle.ty_prog.specs.Tree.{Tree, ExprTree, PatternTree, ExprLevel, PatternLevel}
use Rattle.ty_linear.specs.Linear.{is_in}
use Rattle.ty_walk.specs.Everywhere.{StandsIn, AllNodesOf, AllNodes}
use Rattle.ty_conform.specs.Conforms.{linear_of}
use Rattle.ty_conform.specs.Carried.{HasLinearisations}
use Rattle.ty_conform.specs.Kinds.{is_trait, is_object, superclass, superclass_of, reaches}
use Rattle.ty_flow.specs.SetFirst.{LocalsAreSetFirst}
use Rattle.ty_complete.specs.declared.word.Word.{Word}
use Rattle.ty_complete.specs.Words.{words, is_empty, is_none, is_main, is_super}

-- the first classes are those of the prelude
abbrev pub BeginsWithPrelude : Program → Type 0
BeginsWithPrelude p = take (length prelude) p.classes ≡ prelude

-- the classes behind the prelude
abbrev pub own_classes : Program → List Class
own_classes p = drop (length prelude) p.classes

-- the class file that a class gives by its kind and name: an object one with `$`. Those of the prelude's classes stand in
-- folders, so no class of the program's own gives one.
abbrev pub file : Kind → List ℕ → List ℕ
file kind.Object name = name ++ codes "$"
file other name = name

-- the files of the classes of the program's own
abbrev pub file_names : Program → List (List ℕ)
file_names p = map (λ class. file class.kind class.name) (own_classes p)

-- they differ, and none is named `Main`
pub record FilesDiffer (p : Program) : Type 0 where
  pub apart : AllPairs (λ one other. one ≢ other) (file_names p)
  pub not_main : All (λ name. name ≢ codes "Main") (file_names p)

-- a character that a name in a class file may have (JVMS 4.2.2), and no parenthesis
abbrev pub is_plain : ℕ → Bool
is_plain character = not (list_any (nat_eq character) (codes ".;[/<>()"))

-- a name of 1 to so many characters
pub record IsName (most : ℕ) (name : List ℕ) : Type 0 where
  pub some : 1 ≤ length name
  pub few : length name ≤ most
  pub plain : All (λ character. IsTrue (is_plain character)) name

-- the names of a class and of its members fit; no field has the name of the field that holds an object
pub record HasNames (class : Class) : Type 0 where
  pub own : IsName 86 class.name
  pub fields : All (λ f. IsName 200 f.name) class.fields
  pub cells : All (λ c. IsName 200 c.name) class.cells
  pub methods : All (λ m. IsName 200 m.name) class.methods
  pub not_module : All (λ f. f.name ≢ codes "MODULE$") class.fields

-- the names outside the prelude fit
abbrev pub NamesFit : Program → Type 0
NamesFit p = All HasNames (own_classes p)

-- a name whose words, the texts between `$`, have at most 81 characters: a name of the source has 80, that of a setter one
-- more
abbrev pub has_short_words : List ℕ → Bool
has_short_words name = list_all (λ word. nat_le (length word) 81) (slice_split (nat_eq 36) name)

-- so have the names of a class and of its members
abbrev pub words_fit : Class → Bool
words_fit class =
    has_short_words class.name && list_all (λ f. has_short_words f.name) class.fields
    && list_all (λ c. has_short_words c.name) class.cells && list_all (λ m. has_short_words m.name) class.methods

-- the words of the names outside the prelude fit, so that the names that lowerings put together of them fit a class file
abbrev pub WordsFit : Program → Type 0
WordsFit p = IsTrue (list_all words_fit (own_classes p))

-- a text of at most 10,000 characters
abbrev pub level_text_fits : ExprLevel → Bool
level_text_fits (Expr-F.Text text) = nat_le (length text) 10000
level_text_fits other = true

-- a node that is a text has at most 10,000 characters, whose bytes a class file's constant holds (JVMS 4.4.7)
abbrev pub text_fits : Tree → Bool
text_fits (ExprTree e) = level_text_fits (out-Expr e)
text_fits other = true

-- each text of the program fits
abbrev pub TextsFit : Program → Type 0
TextsFit p = AllNodes (λ node. IsTrue (text_fits node)) p

-- a constructor and a method have at most 121 parameters (the places of JVMS 4.3.3 hold them, each a Long)
abbrev pub HasFewParameters : Class → Type 0
HasFewParameters class = (length class.params ≤ 121) × All (λ m. length m.params ≤ 121) class.methods

-- each class of the program has few enough parameters
abbrev pub ParametersFit : Program → Type 0
ParametersFit p = All HasFewParameters p.classes

-- a trait and an object have no class parameters (SLS 5.3.3, 5.5)
abbrev pub params_allowed : Kind → List ℕ → Bool
params_allowed kind.Trait params = is_empty params
params_allowed kind.Object params = is_empty params
params_allowed other params = true

-- traits and objects of the program have none
abbrev pub OnlyClassesHaveParameters : Program → Type 0
OnlyClassesHaveParameters p = All (λ class. IsTrue (params_allowed class.kind class.params)) p.classes

-- a type that a member may be declared with: Nothing has no value, and Array is that of a parameter of `main` alone
abbrev pub is_declared : Ty → Bool
is_declared ty.Nothing = false
is_declared ty.Array = false
is_declared other = true

-- no parameter, or one of type Array
abbrev pub is_entry_list : List Ty → Bool
is_entry_list [] = true
is_entry_list (ty.Array ∷ []) = true
is_entry_list other = false

-- whether a name of these words is `main`, or `T$$super$main`, which the lowering of traits makes of it
abbrev pub is_main_name : List Word → Bool
is_main_name (only ∷ []) = is_main only
is_main_name (trait ∷ gap ∷ super ∷ last ∷ []) = is_none gap && is_super super && is_main last
is_main_name other = false

-- whether it is `main$`, which takes the object first
abbrev pub is_static_main_name : List Word → Bool
is_static_main_name (first ∷ last ∷ []) = is_main first && is_none last
is_static_main_name other = false

-- parameters of these types may be declared by a method with a name of these words
abbrev pub params_declared : List Word → List Ty → Bool
params_declared name params =
    list_all is_declared params
    || is_main_name name && is_entry_list params
    || is_static_main_name name && list_all is_declared (take 1 params) && is_entry_list (drop 1 params)

-- the types of the parameters and of the result of a method
abbrev pub method_declared : Method → Bool
method_declared m = params_declared (words m.name) m.params && is_declared m.result

-- the types of the fields, cells and methods of a class
abbrev pub types_declared : Class → Bool
types_declared class =
    list_all (λ f. is_declared f.ty) class.fields && list_all (λ c. is_declared c.ty) class.cells
    && list_all method_declared class.methods

-- all members of the program have types that they may be declared with
abbrev pub TypesAreDeclared : Program → Type 0
TypesAreDeclared p = IsTrue (list_all types_declared p.classes)

-- a `toString` or `equals` that isn't static has the parameters and the result of AnyRef's (SLS 12.1)
pub record FitsAnyRef (m : Method) : Type 0 where
  pub text : m.is_static ≡ false → m.name ≡ codes "toString" → (m.params ≡ []) × (m.result ≡ ty.Text)
  pub equality : m.is_static ≡ false → m.name ≡ codes "equals" → (m.params ≡ ty.Any ∷ []) × (m.result ≡ ty.Boolean)

-- all methods of the program fit AnyRef
abbrev pub MethodsFitAnyRef : Program → Type 0
MethodsFitAnyRef p = All (λ class. All FitsAnyRef class.methods) p.classes

-- no two of a list have the same name
abbrev pub differ : {A : Type 0} → (A → List ℕ) → List A → Bool
differ name [] = true
differ name (first ∷ rest) = not (list_any (λ other. bytes_eq (name first) (name other)) rest) && differ name rest

-- no two fields, no two cells and no two methods of a class have one name
abbrev pub members_differ : Class → Bool
members_differ class = differ (λ f. f.name) class.fields && differ (λ c. c.name) class.cells && differ (λ m. m.name) class.methods

-- the members of each class of the program have names of their own
abbrev pub MembersDiffer : Program → Type 0
MembersDiffer p = All (λ class. IsTrue (members_differ class)) p.classes

-- whether the superclass of a trait, if it has one, is in the linearisation of another superclass
abbrev pub superclass_fits : List Class → Option ℕ → Option ℕ → Bool
superclass_fits classes super None = true
superclass_fits classes super (Some wanted) = reaches classes super wanted

-- a trait in the linearisation of a class with this superclass fits it (SLS 5.1)
abbrev pub fits_below : List Class → Option ℕ → ℕ → Bool
fits_below classes super class = not (is_trait classes class) || superclass_fits classes super (superclass_of classes class)

-- no class has one parent twice (SLS 5.1)
abbrev pub ParentsDiffer : Program → Type 0
ParentsDiffer p = All (λ class. AllPairs (λ one other. one ≢ other) class.parents) p.classes

-- a parent after the first is a trait; each trait of the linearisation fits the superclass
abbrev pub parents_fit : List Class → Class → Bool
parents_fit classes class =
    list_all (is_trait classes) (drop 1 class.parents)
    && list_all (fits_below classes (superclass classes class.parents)) class.linear

-- the parents of each class of the program fit
abbrev pub ParentsFit : Program → Type 0
ParentsFit p = All (λ class. IsTrue (parents_fit p.classes class)) p.classes

-- no parent is an object (SLS 5.5)
abbrev pub ParentsAreNoObjects : Program → Type 0
ParentsAreNoObjects p = All (λ class. IsTrue (list_all (λ parent. not (is_object p.classes parent)) class.parents)) p.classes

-- the number of Thread in the prelude
abbrev pub THREAD : ℕ
THREAD = 1

-- no parent is Thread
abbrev pub ParentsAreNoThreads : Program → Type 0
ParentsAreNoThreads p = All (λ class. IsTrue (list_all (λ parent. not (nat_eq THREAD parent)) class.parents)) p.classes

-- a class that `new` may make an object of: no trait, no abstract class, and not that of an object
abbrev pub is_made_kind : Kind → Bool
is_made_kind kind.Class = true
is_made_kind other = false

-- the class that an expression makes an object of
abbrev pub level_made : ExprLevel → Option ℕ
level_made (Expr-F.New class args) = Some class
level_made other = None

-- the class that a node makes an object of
abbrev pub made : Tree → Option ℕ
made (ExprTree e) = level_made (out-Expr e)
made other = None

-- a node that makes an object names no trait, no abstract class and no object (SLS 5.1, 5.5, 6.10)
abbrev pub made_fits : List Class → Tree → Bool
made_fits classes node =
    unwrap_or (option_map (λ c. is_made_kind c.kind) (option_and_then (slice_get classes) (made node))) true

-- each node of the program that makes an object fits
abbrev pub NewIsConcrete : Program → Type 0
NewIsConcrete p = AllNodes (λ node. IsTrue (made_fits p.classes node)) p

-- the class whose field an expression reads or stores into
abbrev pub level_fields_of : ExprLevel → Option ℕ
level_fields_of (Expr-F.Get of class field) = Some class
level_fields_of (Expr-F.Put of class field value) = Some class
level_fields_of other = None

-- the class whose fields a pattern takes apart
abbrev pub level_parts_of : PatternLevel → Option ℕ
level_parts_of (Pattern-F.Make class parts) = Some class
level_parts_of other = None

-- the class whose fields a node reads, stores into or takes apart
abbrev pub fields_of : Tree → Option ℕ
fields_of (ExprTree e) = level_fields_of (out-Expr e)
fields_of (PatternTree pattern) = level_parts_of (out-Pattern pattern)
fields_of other = None

-- a node outside the prelude uses no field of a class of the prelude: no class file has a reference to one
abbrev pub keeps_out : Tree → Bool
keeps_out node = unwrap_or (option_map (λ class. nat_le (length prelude) class) (fields_of node)) true

-- all nodes outside the prelude keep out of it
abbrev pub PreludeIsClosed : Program → Type 0
PreludeIsClosed p = All (AllNodesOf (λ node. IsTrue (keeps_out node))) (own_classes p)

-- the type Unit
abbrev pub is_unit : Ty → Bool
is_unit ty.Unit = true
is_unit other = false

-- whether the method at a class's number and its own may be the first to run
abbrev pub is_entry : List Class → ℕ × ℕ → Bool
is_entry classes found =
    unwrap_or (option_map (λ m. is_entry_list m.params && is_unit m.result)
    (option_and_then (λ c. slice_get c.methods found.1) (slice_get classes found.0))) false

-- whether the object that `main` names has a method of this name to begin with
abbrev pub begins_with : Program → List ℕ → Bool
begins_with p name = is_object p.classes p.main && unwrap_or (option_map (is_entry p.classes) (find p p.main name)) false

-- `main` is an object for which `find` gives a `main` of no parameter or of one of type Array, and of result Unit
abbrev pub HasMain : Program → Type 0
HasMain p = IsTrue (begins_with p (codes "main"))

-- a class of whose objects there may be one: an object, or one that is made somewhere
pub data HasObjects (p : Program) (class : ℕ) : Type 0 where
  object : IsTrue (is_object p.classes class) → HasObjects p class
  created : (maker : Class) (node : Tree) → Contains p.classes maker → StandsIn maker node → made node ≡ Some class → HasObjects p class

-- a class of a linearisation
pub record IsAbove (p : Program) (linear : List ℕ) (above : Class) : Type 0 where
  pub number : ℕ
  pub has : IsTrue (is_in linear number)
  pub is : slice_get p.classes number ≡ Some above

-- a class of the linearisation of another
abbrev pub HasAbove : Program → ℕ → Class → Type 0
HasAbove p class above = IsAbove p (linear_of p.classes class) above

-- methods of one name that aren't static, of classes of one linearisation, have the same parameters and result (SLS 5.1.3,
-- 5.1.4)
pub record Agrees (p : Program) (linear : List ℕ) : Type 0 where
  pub each : (one two : Class) (first second : Method) → IsAbove p linear one → IsAbove p linear two
      → Contains one.methods first → Contains two.methods second → first.is_static ≡ false → second.is_static ≡ false
      → first.name ≡ second.name → (first.params ≡ second.params) × (first.result ≡ second.result)

-- so in each class and each trait, also one of which there are no objects
abbrev pub MembersAgree : Program → Type 0
MembersAgree p = All (λ class. Agrees p class.linear) p.classes

-- the template and the name of an expression that calls by `super`
abbrev pub level_super : ExprLevel → Option (ℕ × List ℕ)
level_super (Expr-F.SuperCall after name args) = Some (after, name)
level_super other = None

-- the template and the name of a call by `super`
abbrev pub super_of : Tree → Option (ℕ × List ℕ)
super_of (ExprTree e) = level_super (out-Expr e)
super_of other = None

-- in a class of which there are objects, each name of a method that isn't static is found, and what `super` calls is found
-- (SLS 5.1.3, 6.5)
pub record FindsIts (p : Program) (class : ℕ) : Type 0 where
  pub found : (above : Class) (method : Method) → HasAbove p class above → Contains above.methods method
      → method.is_static ≡ false → IsSome (find p class method.name)
  pub super : (above : Class) (node : Tree) (after : ℕ) (name : List ℕ) → HasAbove p class above → StandsIn above node
      → super_of node ≡ Some (after, name) → IsSome (super_find p class after name)

-- each class of which there are objects finds what it must
abbrev pub FindsAll : Program → Type 0
FindsAll p = (class : ℕ) → HasObjects p class → FindsIts p class

-- the parts of a complete program; that each local has one type stands beside them, in `GoodWith`
pub record Complete (p : Program) : Type 0 where
  pub begins : BeginsWithPrelude p
  pub files : FilesDiffer p
  pub names : NamesFit p
  pub words : WordsFit p
  pub texts : TextsFit p
  pub parameters : ParametersFit p
  pub only_classes : OnlyClassesHaveParameters p
  pub types : TypesAreDeclared p
  pub any_ref : MethodsFitAnyRef p
  pub members : MembersDiffer p
  pub linearisations : HasLinearisations p
  pub parents_differ : ParentsDiffer p
  pub parents : ParentsFit p
  pub no_objects : ParentsAreNoObjects p
  pub no_threads : ParentsAreNoThreads p
  pub concrete : NewIsConcrete p
  pub closed : PreludeIsClosed p
  pub agree : MembersAgree p
  pub found : FindsAll p
  pub set : LocalsAreSetFirst p
  pub main : HasMain p
