-- The names of the built-in classes.
use Rattle.std.proofs.Common.{◌≡◌, map, [], ◌∷◌, List, ℕ, codes, refl}
use Rattle.std.specs.Str.{chars}
use Rattle.cf_link.specs.BuiltIns.{built_ins}
use Rattle.cf_set.specs.Names.{with_names}

-- the texts of all
abbrev pub texts : List (List ℕ)
texts = codes "java/lang/Object" ∷ codes "java/lang/String" ∷ codes "java/lang/Runnable" ∷ codes "java/lang/Thread" ∷ codes "java/lang/Throwable" ∷ codes "java/lang/Exception" ∷ codes "java/lang/RuntimeException" ∷ codes "java/lang/ArithmeticException" ∷ codes "java/lang/NullPointerException" ∷ codes "java/lang/ClassCastException" ∷ codes "java/lang/IllegalStateException" ∷ codes "scala/MatchError" ∷ codes "java/lang/IllegalArgumentException" ∷ codes "java/lang/IllegalThreadStateException" ∷ codes "java/lang/Error" ∷ codes "java/lang/LinkageError" ∷ codes "java/lang/ExceptionInInitializerError" ∷ codes "java/lang/NoClassDefFoundError" ∷ codes "java/lang/VirtualMachineError" ∷ codes "java/lang/OutOfMemoryError" ∷ codes "lazyrt/LazyCycle" ∷ codes "java/lang/Integer" ∷ codes "java/lang/Long" ∷ codes "java/lang/Boolean" ∷ codes "lazyrt/Unit" ∷ codes "lazyrt/Latch" ∷ codes "lazyrt/Evaluating" ∷ codes "lazyrt/Cells" ∷ []

pub spelled : map chars texts ≡ texts
unfolding chars
spelled = refl

pub all : with_names [] texts ≡ map (λ b. b.name) built_ins
all = refl
