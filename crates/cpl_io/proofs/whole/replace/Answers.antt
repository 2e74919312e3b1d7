use Rattle.std.proofs.Common.{◌≡◌, ◌≢◌, ◌⊎◌, ◌∙◌, sym, ap, subst, inl, inr, ℕ, List, Some, IsOk, string_bytes}
use Rattle.cpl_io.specs.Disk.{Place, Nothing, IsFile, Removes}
use Rattle.cpl_io.specs.Whole.{Untouched, OldOrNew}
use Rattle.cpl_io.proofs.Moments.{started, stepped, joined, goes_on, then, at_step, stands_then, at_end}
use Rattle.cpl_io.proofs.Places.{settled_others, settled_here, settled_one, removed_part, removed_others, same_or_other}
use Rattle.cpl_io.proofs.whole.replace.Goals.{in-Some, in_default}
use Rattle.cpl_io.proofs.whole.replace.Goals as goal

-- whatever is put there, the path has its old bytes or the new ones
pub returns-in-Ok-clause-any_moment : goal.returns-in-Ok-clause-any_moment
returns-in-Ok-clause-any_moment g c told =
    let d = g.D.Disk in
    let path = c.args.path.now in
    let bytes = c.args.bytes.now in
    let part = string_bytes c.in_ok-part.part in
    let given : Untouched d.place d.since c.new_part.new.disk c.match-old-2.disk path = elim c.match-old-2.branch [
      | in-Some w ↦ subst (λ disk. Untouched d.place d.since c.new_part.new.disk disk path) (sym w.disk-is) (stepped d.place d.since c.new_part.new.disk w.give_rights.new.self path (w.give_rights.ensures.time told) (w.give_rights.ensures.same told path))
      | in_default w ↦ subst (λ disk. Untouched d.place d.since c.new_part.new.disk disk path) (sym w.disk-is) (started d.place d.since c.new_part.new.disk path)
    ] in
    let made = joined d.place d.since c.args.disk.now c.rights.new.self c.new_part.new.disk path (stepped d.place d.since c.args.disk.now c.rights.new.self path (c.rights.ensures.time told) (c.rights.ensures.same told path)) (c.in_ok-part.ensures.others told path (λ same. c.in_ok-part.ensures.other_name (sym same))) in
    let before = joined d.place d.since c.args.disk.now c.new_part.new.disk c.match-old-2.disk path made given in
    let one = at_end d.place d.since g.met.D.Disk.counts_now g.met.D.Disk.only_now c.match-old-2.disk c.put.new.disk path bytes (c.put.ensures.any_moment told) in
    let is = settled_here d.waits path (d.place c.put.new.disk) (d.place c.wait_for_folder.new.self) c.wait_for_folder.result (c.wait_for_folder.ensures.settled told) in
    let last = settled_one (d.place c.match-old-2.disk path) (d.place c.put.new.disk path) (d.place c.wait_for_folder.new.self path) bytes one is in
    let P = OldOrNew (d.place c.match-old-2.disk path) bytes in
    let waited = at_step d.place d.since c.put.new.disk c.wait_for_folder.new.self path P (c.wait_for_folder.ensures.time told) last in
    stands_then d.place d.since c.args.disk.now c.match-old-2.disk c.wait_for_folder.new.self path bytes before
    (then d.place d.since c.match-old-2.disk c.put.new.disk c.wait_for_folder.new.self path P (c.put.ensures.any_moment told) waited)

-- the partial file's name was free, and all others are as they were
pub returns-in-Ok-clause-others : goal.returns-in-Ok-clause-others
returns-in-Ok-clause-others g c told =
    let d = g.D.Disk in
    let part = string_bytes c.in_ok-part.part in
    record {
      part = Some part;
      free = sym (ap (λ (p : Place). p.now) (c.rights.ensures.same told part)) ∙ (c.in_ok-part.ensures.made told).free;
      others = λ other not_path not_part.
          let ne_path : other ≢ c.args.path.now = λ same. not_path (ap Some (sym same)) in
          let ne_part : other ≢ part = λ same. not_part (ap Some (sym same)) in
          let given : Untouched d.place d.since c.new_part.new.disk c.match-old-2.disk other = elim c.match-old-2.branch [
            | in-Some w ↦ subst (λ disk. Untouched d.place d.since c.new_part.new.disk disk other) (sym w.disk-is) (stepped d.place d.since c.new_part.new.disk w.give_rights.new.self other (w.give_rights.ensures.time told) (w.give_rights.ensures.same told other))
            | in_default w ↦ subst (λ disk. Untouched d.place d.since c.new_part.new.disk disk other) (sym w.disk-is) (started d.place d.since c.new_part.new.disk other)
          ] in
          let made = joined d.place d.since c.args.disk.now c.rights.new.self c.new_part.new.disk other (stepped d.place d.since c.args.disk.now c.rights.new.self other (c.rights.ensures.time told) (c.rights.ensures.same told other)) (c.in_ok-part.ensures.others told other ne_part) in
          let before = joined d.place d.since c.args.disk.now c.new_part.new.disk c.match-old-2.disk other made given in
          let filled = joined d.place d.since c.args.disk.now c.match-old-2.disk c.put.new.disk other before (c.put.ensures.others told other (λ same. ne_part (same ∙ c.as_str-2.ensures.value)) ne_path) in
          goes_on d.place d.since c.args.disk.now c.put.new.disk c.wait_for_folder.new.self other filled (c.wait_for_folder.ensures.time told)
          (settled_others d.waits c.args.path.now other (d.place c.put.new.disk) (d.place c.wait_for_folder.new.self) c.wait_for_folder.result (c.wait_for_folder.ensures.settled told) ne_path);
    }

pub returns-clause-others : goal.returns-clause-others
returns-clause-others g c told =
    let d = g.D.Disk in
    let part = string_bytes c.in_ok-part.part in
    record {
      part = Some part;
      free = sym (ap (λ (p : Place). p.now) (c.rights.ensures.same told part)) ∙ (c.in_ok-part.ensures.made told).free;
      others = λ other not_path not_part.
          let ne_path : other ≢ c.args.path.now = λ same. not_path (ap Some (sym same)) in
          let ne_part : other ≢ part = λ same. not_part (ap Some (sym same)) in
          let given : Untouched d.place d.since c.new_part.new.disk c.match-old-2.disk other = elim c.match-old-2.branch [
            | in-Some w ↦ subst (λ disk. Untouched d.place d.since c.new_part.new.disk disk other) (sym w.disk-is) (stepped d.place d.since c.new_part.new.disk w.give_rights.new.self other (w.give_rights.ensures.time told) (w.give_rights.ensures.same told other))
            | in_default w ↦ subst (λ disk. Untouched d.place d.since c.new_part.new.disk disk other) (sym w.disk-is) (started d.place d.since c.new_part.new.disk other)
          ] in
          let made = joined d.place d.since c.args.disk.now c.rights.new.self c.new_part.new.disk other (stepped d.place d.since c.args.disk.now c.rights.new.self other (c.rights.ensures.time told) (c.rights.ensures.same told other)) (c.in_ok-part.ensures.others told other ne_part) in
          let before = joined d.place d.since c.args.disk.now c.new_part.new.disk c.match-old-2.disk other made given in
          let filled = joined d.place d.since c.args.disk.now c.match-old-2.disk c.put.new.disk other before (c.put.ensures.others told other (λ same. ne_part (same ∙ c.as_str-2.ensures.value)) ne_path) in
          goes_on d.place d.since c.args.disk.now c.put.new.disk c.remove.new.self other filled (c.remove.ensures.time told)
          (removed_others c.as_str-in-Err.result.now other (d.place c.put.new.disk) (d.place c.remove.new.self) c.remove.result (c.remove.ensures.removed told) (λ same. ne_part (same ∙ c.as_str-in-Err.ensures.value)));
    }

-- the partial file is removed, and its name is as free as it was
pub returns-clause-err : goal.returns-clause-err
unfolding returns-clause-others
returns-clause-err g c told removes other ne_path =
    let d = g.D.Disk in
    let part = string_bytes c.in_ok-part.part in
    let others = returns-clause-others g c told in
    let put = d.place c.put.new.disk in
    let end = d.place c.remove.new.self in
    let removed = subst (λ (n : List ℕ). Removes n put end c.remove.result) c.as_str-in-Err.ensures.value (c.remove.ensures.removed told) in
    let sure = subst (λ (n : List ℕ). IsFile (put n).now → IsOk c.remove.result) c.as_str-in-Err.ensures.value (c.remove.ensures.sure told removes) in
    let was = subst (λ (n : List ℕ). IsFile (put n).now ⊎ ((put n).now ≡ Nothing)) c.as_str-2.ensures.value (c.in-Err.ensures.err told) in
    let gone : (end part).now ≡ Nothing = removed_part part put end c.remove.result removed was sure in
    elim (same_or_other other part) [
      | inl same ↦ subst (λ (n : List ℕ). (end n).now ≡ (d.place c.args.disk.now n).now) (sym same) (gone ∙ sym others.free)
      | inr ne_part ↦ ap (λ (p : Place). p.now) (others.others other (λ same. ne_path (some_same same)) (λ same. ne_part (some_same same))).is
    ]
  where
    some_same : {a b : List ℕ} → Some a ≡ Some b → b ≡ a
    some_same same = cc
