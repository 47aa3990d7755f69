-- The built-in classes, with which every linked set begins, and their methods. `Native` says what stands for which method.
use Rattle.std.specs.Prelude.{◌≡◌, ℕ, List, [], ◌∷◌, ◌++◌, Option, Some, None, codes}
use Rattle.cf_link.specs.declared.linked_class.LinkedClass.{LinkedClass}
use Rattle.cf_link.specs.declared.member.LinkedField.{LinkedField}
use Rattle.cf_link.specs.declared.member.LinkedMethod.{LinkedMethod}
use Rattle.cf_link.specs.declared.native.Native.{Native}
use Rattle.cf_link.specs.declared.native.Native.TheVariants as native
use Rattle.cf_link.specs.declared.value_kind.ValueKind.{ValueKind}
use Rattle.cf_link.specs.declared.value_kind.ValueKind.TheVariants.{Int, Long, Reference}

-- what a built-in class declares; its superclass is named by its number
pub record BuiltIn : Type 0 where
  pub name : List ℕ
  pub access : ℕ
  pub parent : Option ℕ
  pub fields : List LinkedField
  pub methods : List LinkedMethod

-- a class below another, with no members of its own
abbrev pub below : ℕ → List ℕ → BuiltIn
below parent name = record { name = name; access = 0x0021; parent = Some parent; fields = []; methods = [] }

-- a field of a reference
abbrev pub reference : List ℕ → List ℕ → LinkedField
reference name descriptor = record { name = name; descriptor = descriptor; kind = Reference }

-- a field of an `int`
abbrev pub integer : List ℕ → List ℕ → LinkedField
integer name descriptor = record { name = name; descriptor = descriptor; kind = Int }

-- a method that the machine has built in
abbrev pub built : ℕ → List ℕ → List ℕ → List ValueKind → Option ValueKind → Native → LinkedMethod
built access name descriptor parameters result row = record {
  name = name;
  descriptor = descriptor;
  access = access;
  parameters = parameters;
  result = result;
  code = None;
  native = Some row;
}

-- one on an object
abbrev pub instance : List ℕ → List ℕ → List ValueKind → Option ValueKind → Native → LinkedMethod
instance name descriptor parameters result row = built 0x0101 name descriptor parameters result row

-- a static one
abbrev pub static : List ℕ → List ℕ → List ValueKind → Option ValueKind → Native → LinkedMethod
static name descriptor parameters result row = built 0x0109 name descriptor parameters result row

-- one parameter
abbrev pub one : ValueKind → List ValueKind
one kind = kind ∷ []

-- `java/lang/Object`
abbrev pub object : BuiltIn
object = record {
  name = codes "java/lang/Object";
  access = 0x0021;
  parent = None;
  fields = [];
  methods =
      instance (codes "<init>") (codes "()V") [] None native.ObjectInit
      ∷ instance (codes "equals") (codes "(Ljava/lang/Object;)Z") (one Reference) (Some Int) native.ObjectEquals
      ∷ instance (codes "toString") (codes "()Ljava/lang/String;") [] (Some Reference) native.ObjectToString ∷ [];
}

-- `java/lang/String`
abbrev pub string : BuiltIn
string = record {
  name = codes "java/lang/String";
  access = 0x0021;
  parent = Some 0;
  fields = [];
  methods =
      instance (codes "length") (codes "()I") [] (Some Int) native.StringLength
      ∷ instance (codes "isEmpty") (codes "()Z") [] (Some Int) native.StringIsEmpty ∷ [];
}

-- `java/lang/Runnable`, an interface
abbrev pub runnable : BuiltIn
runnable = record {
  name = codes "java/lang/Runnable";
  access = 0x0601;
  parent = Some 0;
  fields = [];
  methods = record {
    name = codes "run";
    descriptor = codes "()V";
    access = 0x0401;
    parameters = [];
    result = None;
    code = None;
    native = None;
  } ∷ [];
}

-- `java/lang/Thread`
abbrev pub thread : BuiltIn
thread = record {
  name = codes "java/lang/Thread";
  access = 0x0021;
  parent = Some 0;
  fields = reference (codes "target") (codes "Ljava/lang/Runnable;") ∷ integer (codes "started") (codes "Z") ∷ [];
  methods =
      instance (codes "<init>") (codes "(Ljava/lang/Runnable;)V") (one Reference) None native.ThreadInit
      ∷ instance (codes "start") (codes "()V") [] None native.ThreadStart ∷ [];
}

-- `java/lang/Throwable`
abbrev pub throwable : BuiltIn
throwable = record {
  name = codes "java/lang/Throwable";
  access = 0x0021;
  parent = Some 0;
  fields = reference (codes "message") (codes "Ljava/lang/String;") ∷ [];
  methods =
      instance (codes "<init>") (codes "()V") [] None native.ThrowableInit
      ∷ instance (codes "<init>") (codes "(Ljava/lang/String;)V") (one Reference) None native.ThrowableInitText
      ∷ instance (codes "getMessage") (codes "()Ljava/lang/String;") [] (Some Reference) native.ThrowableGetMessage
      ∷ instance (codes "toString") (codes "()Ljava/lang/String;") [] (Some Reference) native.ThrowableToString ∷ [];
}

-- the throwables below it, by the number of their superclass
abbrev pub throwables : List BuiltIn
throwables =
    below 4 (codes "java/lang/Exception")
    ∷ below 5 (codes "java/lang/RuntimeException")
    ∷ below 6 (codes "java/lang/ArithmeticException")
    ∷ below 6 (codes "java/lang/NullPointerException")
    ∷ below 6 (codes "java/lang/ClassCastException")
    ∷ below 6 (codes "java/lang/IllegalStateException")
    ∷ below 6 (codes "scala/MatchError")
    ∷ below 6 (codes "java/lang/IllegalArgumentException")
    ∷ below 12 (codes "java/lang/IllegalThreadStateException")
    ∷ below 4 (codes "java/lang/Error")
    ∷ below 14 (codes "java/lang/LinkageError")
    ∷ below 15 (codes "java/lang/ExceptionInInitializerError")
    ∷ below 15 (codes "java/lang/NoClassDefFoundError")
    ∷ below 14 (codes "java/lang/VirtualMachineError")
    ∷ below 18 (codes "java/lang/OutOfMemoryError")
    ∷ below 6 (codes "lazyrt/LazyCycle") ∷ []

-- the classes of boxes and of control values
abbrev pub values : List BuiltIn
values =
    below 0 (codes "java/lang/Integer")
    ∷ below 0 (codes "java/lang/Long")
    ∷ below 0 (codes "java/lang/Boolean")
    ∷ below 0 (codes "lazyrt/Unit")
    ∷ below 0 (codes "lazyrt/Latch")
    ∷ below 0 (codes "lazyrt/Evaluating") ∷ []

-- `lazyrt/Cells`
abbrev pub cells : BuiltIn
cells = record {
  name = codes "lazyrt/Cells";
  access = 0x0021;
  parent = Some 0;
  fields = [];
  methods =
      static (codes "cas") (codes "(Ljava/lang/Object;Ljava/lang/String;Ljava/lang/Object;Ljava/lang/Object;)Z")
      (Reference ∷ Reference ∷ Reference ∷ Reference ∷ []) (Some Int) native.Cas
      ∷ static (codes "latch") (codes "(Ljava/lang/Object;)Llazyrt/Latch;") (one Reference) (Some Reference) native.Latch
      ∷ static (codes "countDown") (codes "(Llazyrt/Latch;)V") (one Reference) None native.CountDown
      ∷ static (codes "await") (codes "(Llazyrt/Latch;)V") (one Reference) None native.Await
      ∷ static (codes "ownedHere") (codes "(Ljava/lang/Object;)Z") (one Reference) (Some Int) native.OwnedHere
      ∷ static (codes "evaluating") (codes "()Ljava/lang/Object;") [] (Some Reference) native.Evaluating
      ∷ static (codes "nullValue") (codes "()Ljava/lang/Object;") [] (Some Reference) native.NullValue
      ∷ static (codes "boxInt") (codes "(I)Ljava/lang/Object;") (one Int) (Some Reference) native.BoxInt
      ∷ static (codes "boxLong") (codes "(J)Ljava/lang/Object;") (one Long) (Some Reference) native.BoxLong
      ∷ static (codes "boxBoolean") (codes "(Z)Ljava/lang/Object;") (one Int) (Some Reference) native.BoxBoolean
      ∷ static (codes "boxUnit") (codes "()Ljava/lang/Object;") [] (Some Reference) native.BoxUnit
      ∷ static (codes "unboxInt") (codes "(Ljava/lang/Object;)I") (one Reference) (Some Int) native.UnboxInt
      ∷ static (codes "unboxLong") (codes "(Ljava/lang/Object;)J") (one Reference) (Some Long) native.UnboxLong
      ∷ static (codes "unboxBoolean") (codes "(Ljava/lang/Object;)Z") (one Reference) (Some Int) native.UnboxBoolean
      ∷ static (codes "text") (codes "(Ljava/lang/Object;)Ljava/lang/String;") (one Reference) (Some Reference) native.Text
      ∷ static (codes "concat") (codes "(Ljava/lang/String;Ljava/lang/String;)Ljava/lang/String;") (Reference ∷ Reference ∷ []) (Some Reference) native.Concat
      ∷ static (codes "kindOf") (codes "(Ljava/lang/Object;)Ljava/lang/String;") (one Reference) (Some Reference) native.KindOf
      ∷ static (codes "println") (codes "(Ljava/lang/String;)V") (one Reference) None native.Println ∷ [];
}

-- all of them, by their numbers
abbrev pub built_ins : List BuiltIn
built_ins = (object ∷ string ∷ runnable ∷ thread ∷ throwable ∷ []) ++ throwables ++ values ++ cells ∷ []

-- a linked class is this built-in one
pub record IsBuiltIn (b : BuiltIn) (c : LinkedClass) : Type 0 where
  pub name : c.name ≡ b.name
  pub access : c.access ≡ b.access
  pub parent : c.parent ≡ b.parent
  pub interfaces : c.interfaces ≡ []
  pub fields : c.fields ≡ b.fields
  pub statics : c.statics ≡ []
  pub methods : c.methods ≡ b.methods
