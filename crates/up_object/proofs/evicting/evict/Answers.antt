use Rattle.std.proofs.Common.{◌≡◌, ◌+◌, List, ◌∷◌, ◌++◌, cond, sym, subst, ap, ◌∙◌}
use Rattle.std.specs.Prelude.{option_to_list}
use Rattle.up_num.specs.declared.pages.PageNo.{PageNo}
use Rattle.up_bank.specs.Standing.{Held as Frame}
use Rattle.up_pages.specs.Frames.{count_kind}
use Rattle.up_pages.specs.declared.page.Page.{Page}
use Rattle.up_pages.specs.declared.page.Page.TheVariants.{Absent}
use Rattle.up_model.specs.Deeds.{has_page}
use Rattle.up_model.specs.Written.{Written}
use Rattle.up_model.specs.declared.entry.Entry.{Entry}
use Rattle.up_object.specs.declared.numbers.Begin.{Begin}
use Rattle.up_object.specs.Numbers.{begin_in}
use Rattle.up_object.specs.Parts.{HasOwn}
use Rattle.up_object.specs.Change.{AllOwn}
use Rattle.up_object.specs.Whole.{Whole, held}
use Rattle.up_object.proofs.DroppedPages.{Takes, Taken, evicted, evicted_frames}
use Rattle.up_object.proofs.evicting.evict.Goals as goal

pub invariant_of-object-2 : goal.invariant_of-object-2
invariant_of-object-2 c =
    let takes = subst (λ (v : Whole). Takes v.birth c.args.entry v.journal c.args.list.now) (sym c.object.view_is)
    (record { goes = c.requires.goes; bare = c.requires.bare; rests = c.requires.pages; asks = c.requires.asks; spent = c.requires.spent; tally = c.requires.tally; size = c.requires.size; due = c.requires.due }) in
    let taken = subst (λ (xs : List PageNo). Taken c.object.inside.pages c.take_pages.new.pages c.object.inside.queues c.take_pages.new.queues xs) c.as_slice.ensures (record {
      puts = λ p. c.take_pages.ensures.pages p ∙ ap (λ (page : Page). cond (has_page c.as_slice.result.now p) Absent page) (c.make_room.ensures.pages p);
      sized = c.take_pages.ensures.size ∙ c.make_room.ensures.size;
      finds = c.take_pages.ensures.queue;
      room = c.take_pages.ensures.places;
    }) in
    evicted c.object.inside.banks c.object.inside.pages c.take_pages.new.pages c.object.inside.marks c.object.inside.queues c.take_pages.new.queues c.object.inside.asks c.object.inside.tally c.object.inside.numbers c.add.new.self
    c.object.inside.newest c.max-newest.result c.object.inside.leaves c.leaves_left-left.result c.object.inside.log.spare c.push.new.self.spare c.make_room.new.log.spare
    c.object.inside.birth c.args.entry c.object.inside.log.entries c.push.new.self.entries c.args.list.now c.object.invariant takes taken
    (c.add.ensures ∙ ap (λ (xs : List Begin). xs ++ option_to_list (begin_in c.args.entry)) c.make_room.ensures.begins) c.max-newest.ensures c.leaves_left-left.ensures c.in_default.ensures.enough
    (ap (λ (w : Written). w.spare) c.push.ensures) (ap (λ (w : Written). w.entries) c.push.ensures ∙ ap (λ (h : List Entry). c.args.entry ∷ h) c.make_room.ensures.entries)

pub returns-clause-frames : goal.returns-clause-frames
returns-clause-frames c = λ kind.
    let s = c.object.invariant in
    let takes = subst (λ (v : Whole). Takes v.birth c.args.entry v.journal c.args.list.now) (sym c.object.view_is)
    (record { goes = c.requires.goes; bare = c.requires.bare; rests = c.requires.pages; asks = c.requires.asks; spent = c.requires.spent; tally = c.requires.tally; size = c.requires.size; due = c.requires.due }) in
    let taken = subst (λ (xs : List PageNo). Taken c.object.inside.pages c.take_pages.new.pages c.object.inside.queues c.take_pages.new.queues xs) c.as_slice.ensures (record {
      puts = λ p. c.take_pages.ensures.pages p ∙ ap (λ (page : Page). cond (has_page c.as_slice.result.now p) Absent page) (c.make_room.ensures.pages p);
      sized = c.take_pages.ensures.size ∙ c.make_room.ensures.size;
      finds = c.take_pages.ensures.queue;
      room = c.take_pages.ensures.places;
    }) in
    subst (λ (v : Whole). count_kind kind c.take_pages.new.back.items + held v.birth (c.args.entry ∷ v.journal) kind ≡ held v.birth v.journal kind) c.object.view_is
    (evicted_frames kind c.object.inside.banks c.object.inside.pages c.make_room.new.pages c.take_pages.new.pages c.object.inside.marks c.object.inside.queues c.take_pages.new.queues
    c.make_room.new.back.items c.take_pages.new.back.items c.object.inside.birth c.args.entry c.object.inside.log.entries c.args.list.now s.each s.sized c.make_room.ensures.pages c.make_room.ensures.size
    takes taken (c.make_room.ensures.items ∙ c.new-back.ensures.empty) (c.take_pages.ensures.kinds kind))

pub returns-clause-own : goal.returns-clause-own
returns-clause-own c =
    let s = c.object.invariant in
    subst (λ (v : Whole). AllOwn v.banks c.take_pages.new.back.items) c.object.view_is
    (c.take_pages.ensures.own c.object.inside.banks (λ p. subst (λ (page : Page). HasOwn c.object.inside.banks page) (sym (c.make_room.ensures.pages p)) (s.each p).owned)
    (subst (λ (xs : List Frame). AllOwn c.object.inside.banks xs) (sym (c.make_room.ensures.items ∙ c.new-back.ensures.empty)) tt))
