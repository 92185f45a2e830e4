use Rattle.std.proofs.Common.{arith, ◌≡◌, ℕ, ◌+◌, ◌<◌, ◌≤◌, ◌++◌, List, [], ◌∷◌, suc, length, take, get_or, sym, ap, subst, ◌∙◌, take-suc, length-take-le}
use Rattle.up_script.specs.declared.script.ActorLine.{ActorLine}
use Rattle.up_worker.specs.Acting.{Acting, unborn}
use Rattle.up_stage.specs.Scheduled.{unborn_from}
use Rattle.up_stage.proofs.actors.actors_of.Goals as goal

unborn_push : (n : ℕ) (lines : List ActorLine) (line : ActorLine) → unborn_from n (lines ++ line ∷ []) ≡ unborn_from n lines ++ unborn (n + length lines) line.kind line.objects ∷ []
unborn_push n [] line = (let e : n ≡ n + 0 = omega arith in ap (λ k. unborn k line.kind line.objects ∷ []) e)
unborn_push n (l ∷ ls) line =
    let e : n + 1 + length ls ≡ n + suc (length ls) = omega arith in
    ap (λ (all : List Acting). unborn n l.kind l.objects ∷ all) (unborn_push (n + 1) ls line ∙ ap (λ k. unborn_from (n + 1) ls ++ unborn k line.kind line.objects ∷ []) e)

unborn_more : (lines : List ActorLine) (i who : ℕ) (line : ActorLine) (objects : List ℕ) (made new : List Acting) → i < length lines → line ≡ get_or lines i line
    → made ≡ unborn_from 0 (take i lines) → who ≡ i → objects ≡ line.objects → new ≡ made ++ unborn who line.kind objects ∷ [] → new ≡ unborn_from 0 (take (i + 1) lines)
unborn_more lines i who line objects made new below is old at same more =
    let e : suc i ≡ i + 1 = omega arith in
    let first : length (take i lines) ≡ i = length-take-le i lines (omega arith) in
    let none : length (take i lines) ≡ 0 + length (take i lines) = omega arith in
    let upto : take i lines ++ line ∷ [] ≡ take (i + 1) lines = ap (λ l. take i lines ++ l ∷ []) is ∙ sym (take-suc lines i line below) ∙ ap (λ n. take n lines) e in
    more ∙ ap (λ (all : List Acting). all ++ unborn who line.kind objects ∷ []) old
    ∙ ap (λ n. unborn_from 0 (take i lines) ++ unborn n line.kind objects ∷ []) (at ∙ sym first)
    ∙ ap (λ os. unborn_from 0 (take i lines) ++ unborn (length (take i lines)) line.kind os ∷ []) same
    ∙ ap (λ n. unborn_from 0 (take i lines) ++ unborn n line.kind line.objects ∷ []) none
    ∙ sym (unborn_push 0 (take i lines) line) ∙ ap (unborn_from 0) upto

pub loop-line-preserved : goal.loop-line-preserved
loop-line-preserved c =
    let more = c.push_reserved.ensures.items ∙ ap (λ (one : Acting). c.loop-line.actors.items ++ one ∷ []) c.new.ensures in
    record {
      made = unborn_more c.args.lines.now c.loop-line.line-index c.len-who.result c.line-item.result c.in_ok-objects.objects c.loop-line.actors.items c.push_reserved.new.self.items c.loop-line-test.true c.line-item.is
          c.loop-line.invariant.made (c.len-who.ensures ∙ c.loop-line.invariant.count) c.in_ok-objects.ensures.value more;
      count = c.push_reserved.ensures.len ∙ ap (λ n. n + 1) c.loop-line.invariant.count;
      room = subst (λ n. length c.args.lines.now ≤ n) (sym c.push_reserved.ensures.capacity) c.loop-line.invariant.room;
    }
