use Rattle.std.proofs.Common.{not, ◌&&◌, length, ltb, refl}
use Rattle.std.specs.List.{list_all}
use Rattle.std.proofs.lemmas.Bool.{and_parts, le-leb, ltb-true}
use Rattle.up_script.specs.Declarations.{is_first}
use Rattle.up_script.specs.Objects.{is_served}
use Rattle.up_script.proofs.Counts.{sound_all}
use Rattle.up_script.proofs.declarations.Declared.counted.Goals as goal

pub returns-clause-sound : goal.returns-clause-sound
returns-clause-sound c = λ whole.
    let objects = c.in_ok-objects.objects in
    let p = and_parts (not (is_first c.args.self.last) && ltb 0 (length objects)) (list_all is_served objects) whole in
    let q = and_parts (not (is_first c.args.self.last)) (ltb 0 (length objects)) p.0 in
    rw (
      le-leb 1 (length objects) (ltb-true 0 (length objects) q.1),
      le-leb (length objects) 16 c.in_ok-objects.ensures.few.0,
      sound_all objects c.in_ok-objects.ensures.fair c.in_ok-objects.ensures.few.1 p.1,
    ) refl
