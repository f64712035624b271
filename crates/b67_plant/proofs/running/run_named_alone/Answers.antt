use Rattle.std.proofs.Common.{◌≡◌, ℕ, ◌≤◌, Some, None, sym, subst, ◌∙◌, arith}
use Rattle.b67_limits.specs.declared.TheConstants.{MOST_BUDGET}
use Rattle.b67_table.specs.Sound.{Sound}
use Rattle.b67_stands.proofs.Alone.{turns_keep_by_one}
use Rattle.b67_plant.proofs.running.run_named_alone.Goals as goal

pub index_mut-requires : goal.index_mut-requires
index_mut-requires g c = omega (arith, c.in_ok-plant.ensures.posts, c.new.new.posts.ok.0)

pub work_alone-answer-requires : goal.work_alone-answer-requires
work_alone-answer-requires g c = record {
  sound = subst Sound c.requires.code c.requires.sound;
  most = subst (λ (n : ℕ). n ≤ MOST_BUDGET) c.requires.budget.0 c.requires.budget.2;
  first = turns_keep_by_one.first g.N.Named.code g.N.Named.budget g.N.Named.pick c.in_ok-plant.plant c.in_ok-plant.ensures.first;
}

pub left_by-requires : goal.left_by-requires
left_by-requires g c = λ none. let no : Some c.work_alone-answer.result ≡ None = sym c.work_alone-answer.ensures.answered ∙ none in cc

pub returns : goal.returns
returns g c = record {
  has_run = record {
    plant = c.work_alone-answer.new.plant;
    stands = c.work_alone-answer.ensures.stands;
    machine_is = sym c.left_by.ensures.parts.0;
    schedule_is = sym c.left_by.ensures.parts.1;
    answered = c.left_by.ensures.answered;
  };
  by_one = c.work_alone-answer.ensures.by_one;
}
