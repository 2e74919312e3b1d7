use Rattle.std.proofs.Common.{◌≡◌, ◌∙◌, ap, subst, ℕ, arith, List, [], length, map, get_or}
use Rattle.cpl_wires.specs.Settings.{Setting, IsSetting}
use Rattle.cpl_wires.specs.Edges.{edges_of, posted_by}
use Rattle.cpl_wires.specs.Tables.{ends_most, end_number, poster_key}
use Rattle.cpl_wires.proofs.Few.{pieces_few, edges_few, posted_few}
use Rattle.cpl_wires.proofs.Most.{ends_most_is}
use Rattle.cpl_wires.proofs.Read.{groups_count}
use Rattle.cpl_wires.proofs.Slotted.{posted_is}
use Rattle.cpl_wires.proofs.edges.Edges.posted.Goals as goal

pub end_number-requires : goal.end_number-requires
end_number-requires c =
    let few = pieces_few c.args.self.now (subst IsSetting c.self.view_is c.self.invariant.lawful) in omega (arith, few.1, c.requires)

pub at-requires : goal.at-requires
at-requires c =
    let count = groups_count c.self.inside.tables.ends.posted ends_most (map poster_key (edges_of c.self.inside.shared)) c.self.invariant.posted in omega (arith, count, ends_most_is, c.end_number.ensures.few)

pub returns-clause-edges : goal.returns-clause-edges
returns-clause-edges c =
    c.at.ensures
    ∙ ap (λ (n : ℕ). get_or c.self.inside.tables.ends.posted n []) c.end_number.ensures.number
    ∙ ap (λ (l : List (List ℕ)). get_or l (end_number c.args.piece c.args.purpose) []) c.self.invariant.posted
    ∙ posted_is c.self.inside.shared c.args.piece c.args.purpose (let few = pieces_few c.args.self.now (subst IsSetting c.self.view_is c.self.invariant.lawful) in omega (arith, few.1, c.requires))
    ∙ ap (λ (s : Setting). posted_by s c.args.piece c.args.purpose) c.self.view_is

pub returns-clause-few : goal.returns-clause-few
returns-clause-few c =
    let is : c.at.result.now ≡ posted_by c.args.self.now c.args.piece c.args.purpose = c.at.ensures
    ∙ ap (λ (n : ℕ). get_or c.self.inside.tables.ends.posted n []) c.end_number.ensures.number
    ∙ ap (λ (l : List (List ℕ)). get_or l (end_number c.args.piece c.args.purpose) []) c.self.invariant.posted
    ∙ posted_is c.self.inside.shared c.args.piece c.args.purpose (let few = pieces_few c.args.self.now (subst IsSetting c.self.view_is c.self.invariant.lawful) in omega (arith, few.1, c.requires))
    ∙ ap (λ (s : Setting). posted_by s c.args.piece c.args.purpose) c.self.view_is in
    let long = ap length is in
    let few = posted_few c.args.self.now c.args.piece c.args.purpose in
    let most = edges_few c.args.self.now (subst IsSetting c.self.view_is c.self.invariant.lawful) in omega arith
