use Rattle.std.proofs.Common.{◌≡◌, [], ◌∷◌, ◌∙◌, negsuc}
use Rattle.std.specs.Prelude.{codes}
use Rattle.std.specs.Str.{chars}
use Rattle.cf_form.specs.declared.constant.Const.TheVariants.{Utf8, Int, Float, Long, Double, Class, Text, Field, Method, Interface, NameType, Rest}
use Rattle.cf_write.proofs.tests.full_pool.Goals as goal

pub returns : goal.returns
unfolding chars
returns c =
    let own : c.in_ok-own.own ≡ Utf8 (codes "A") = c.in_ok-own.ensures in
    let parent : c.in_ok-parent.parent ≡ Utf8 (codes "B") = c.in_ok-parent.ensures in
    let first : c.in_ok-first.first ≡ Utf8 (codes "Code") = c.in_ok-first.ensures in
    let odd : c.in_ok-odd.odd ≡ Utf8 (0 ∷ 0x1F600 ∷ []) = c.in_ok-odd.ensures in
    let shape : c.in_ok-shape.shape ≡ Utf8 (codes "()V") = c.in_ok-shape.ensures in
    let second : c.in_ok-second.second ≡ Utf8 (codes "Code") = c.in_ok-second.ensures in
    c.from_vec.ensures ∙ c.in_ok-from_array.ensures.items
    ∙ (λ i. Class 2 ∷ own i ∷ Class 4 ∷ parent i ∷ first i
    ∷ Long (negsuc 1) ∷ Rest ∷ Double 0x3FF0000000000000 ∷ Rest
    ∷ odd i ∷ shape i ∷ second i
    ∷ NameType 12 11 ∷ Method 1 13 ∷ Int (negsuc 0) ∷ Float 0x3F800000 ∷ Text 10 ∷ Field 1 13 ∷ Interface 3 13 ∷ [])
