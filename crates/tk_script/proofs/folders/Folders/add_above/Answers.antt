use Rattle.std.proofs.Common.{◌≡◌, ◌-◌, None, Some, IsTrue, arith, ap, ◌∙◌, take, refl}
use Rattle.std.proofs.Math.Seq.{take-length}
use Rattle.std.proofs.lemmas.Str.Pattern.{rfind_char}
use Rattle.tk_script.specs.Folders.{is_named}
use Rattle.tk_script.proofs.Above.{all_named, front_of_front, next_named, none_so_long}
use Rattle.tk_script.proofs.folders.Folders.add_above.Goals as goal

pub loop-place-init : goal.loop-place-init
loop-place-init c = (
  c.utf8.path,
  record {
    begins = take-length c.args.path.now;
    added = none_so_long c.args.path.now (λ folder. IsTrue (is_named c.args.self.now folder));
    kept = λ folder has. has;
    all = refl;
  },
)

pub loop-place-preserved : goal.loop-place-preserved
loop-place-preserved c =
    let found = rfind_char 47 c.loop-place.folder.now (Some c.in-Some.place) c.in-Some.ensures.cases (omega arith) in
    let whole : c.in-Some.place - 0 ≡ c.in-Some.place = omega arith in
    let cut : c.range-folder.result.now ≡ take c.in-Some.place c.loop-place.folder.now = c.range-folder.ensures.value ∙ ap (λ n. take n c.loop-place.folder.now) whole in (
      c.range-folder.utf8,
      record {
        begins = front_of_front c.args.path.now c.loop-place.folder.now c.range-folder.result.now c.in-Some.place c.loop-place.invariant.1.begins cut found.0;
        added = next_named c.args.path.now (λ folder. IsTrue (is_named c.add.new.self folder)) c.loop-place.folder.now c.loop-place.invariant.1.begins
            (λ folder under long. c.in_ok-add.ensures.kept folder (c.loop-place.invariant.1.added folder under long))
            c.range-folder.result.now c.in-Some.place cut found.0 found.2 c.in_ok-add.ensures.added;
        kept = λ folder has. c.in_ok-add.ensures.kept folder (c.loop-place.invariant.1.kept folder has);
        all = c.in_ok-add.ensures.all ∙ c.loop-place.invariant.1.all;
      },
    )

pub returns-clause-added : goal.returns-clause-added
returns-clause-added c =
    all_named c.args.path.now (λ folder. IsTrue (is_named c.loop-place.self folder)) c.loop-place.folder.now c.loop-place.invariant.1.begins c.loop-place.invariant.1.added
    (rfind_char 47 c.loop-place.folder.now None c.in_default.ensures.cases (omega arith))
