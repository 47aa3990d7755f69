use Rattle.std.proofs.Common.{◌≡◌, ◌∙◌, subst, true, false, cond, ◌+◌, rules}
use Rattle.std.proofs.Math.Logic.{∥∥₁_elim}
use Rattle.std.proofs.Props.{props}
use Rattle.cf_link.specs.Classes.{chain_of, line_of, is_interface}
use Rattle.cf_link.specs.TableSlots.{at_slot, face_of, base_of, table_slots, faces_of}
use Rattle.ty_linear.specs.Linear.{is_in}
use Rattle.cf_link.proofs.Targeting.{in_slots, in_face}
use Rattle.cf_link.proofs.targets.target.Goals as goal

pub returns-then-is_interface : goal.returns-then-is_interface
returns-then-is_interface c =
    let k = c.args.k.now in
    let test : is_interface k.classes c.args.of ≡ true = search rules in
    let conforming : is_in (cond (is_interface k.classes c.args.of) (line_of k.classes c.args.class) (chain_of k.classes c.args.class)) c.args.of ≡ true = search rules in
    let there : is_in (line_of k.classes c.args.class) c.args.of ≡ true =
    subst (λ b. is_in (cond b (line_of k.classes c.args.class) (chain_of k.classes c.args.class)) c.args.of ≡ true) test conforming in
    let gives : c.at_slot.result ≡ at_slot (face_of (faces_of k.tables c.args.class) c.args.of) c.args.number = cc in
    gives ∙ ∥∥₁_elim k.linked (Prim.hlevel props)
    (λ linked. in_face k.classes k.tables k.refs k.texts k.main linked c.args.class c.args.of c.args.number test there c.requires.number)

pub returns-else-is_interface : goal.returns-else-is_interface
returns-else-is_interface c =
    let k = c.args.k.now in
    let test : is_interface k.classes c.args.of ≡ false = search rules in
    let conforming : is_in (cond (is_interface k.classes c.args.of) (line_of k.classes c.args.class) (chain_of k.classes c.args.class)) c.args.of ≡ true = search rules in
    let there : is_in (chain_of k.classes c.args.class) c.args.of ≡ true =
    subst (λ b. is_in (cond b (line_of k.classes c.args.class) (chain_of k.classes c.args.class)) c.args.of ≡ true) test conforming in
    let gives : c.at_slot-else-is_interface.result ≡ at_slot (table_slots k.tables c.args.class) (base_of k.tables c.args.of + c.args.number) = cc in
    gives ∙ ∥∥₁_elim k.linked (Prim.hlevel props)
    (λ linked. in_slots k.classes k.tables k.refs k.texts k.main linked c.args.class c.args.of c.args.number there c.requires.number)
