use Rattle.std.proofs.Common.{ℕ, ◌∙◌, ap, subst, sym, true, ◌≡◌, arith}
use Rattle.z80_regs.specs.Words.{word_of}
use Rattle.z80_regs.specs.declared.regs.Regs.{Regs}
use Rattle.mpm_base.specs.Calls.{Taken}
use Rattle.mpm_kernel.proofs.SoundLaws.{runner_lives}
use Rattle.mpm_system.specs.Taking.{asked}
use Rattle.mpm_system.specs.OwnCalls.{is_own}
use Rattle.mpm_machine.proofs.CallLaws.{kept_after}
use Rattle.mpm_machine.proofs.OwnCallLaws.{asked_function, asked_word, lives_popped}
use Rattle.mpm_machine.proofs.OwnCallStepLaws.{own_lives, own_steps, own_call_made, own_call_written}
use Rattle.mpm_machine.proofs.ahead.do_own_call.Goals as goal

pub regs-regs-requires : goal.regs-regs-requires
regs-regs-requires c = runner_lives c.args.system.now.kernel c.args.p c.requires.whole.sound c.requires.makes.on.running

pub take_own-requires : goal.take_own-requires
take_own-requires c =
    let function = ap (λ (regs : Regs). regs.c) c.regs-regs.ensures in
    let made : c.from_le_bytes-word.result ≡ word_of c.regs-regs.result.now.e c.regs-regs.result.now.d = omega (arith, c.from_le_bytes-word.ensures) in
    record {
      lives = runner_lives c.args.system.now.kernel c.args.p c.requires.whole.sound c.requires.makes.on.running;
      own = subst (λ (number : ℕ). is_own number ≡ true) (sym function) c.requires.makes.function;
      function = function;
      word = made ∙ ap (λ (regs : Regs). word_of regs.e regs.d) c.regs-regs.ensures;
    }

pub serve_own-value-requires : goal.serve_own-value-requires
serve_own-value-requires c =
    let kept = kept_after c.args.p c.args.seg c.args.system.now c.take_own.new.self c.requires.whole
    (runner_lives c.args.system.now.kernel c.args.p c.requires.whole.sound c.requires.makes.on.running) (c.take_own.ensures c.args.seg) in
    let same = ap (λ (regs : Regs). regs.c) c.regs-regs.ensures in
    let made : c.from_le_bytes-word.result ≡ word_of c.regs-regs.result.now.e c.regs-regs.result.now.d = omega (arith, c.from_le_bytes-word.ensures) in
    record {
      lives = kept.lives;
      own = subst (λ (function : ℕ). is_own function ≡ true) (sym same) c.requires.makes.function;
      function = same ∙ asked_function c.args.p c.args.seg c.args.system.now ∙ ap (λ (call : Taken). call.function) (sym kept.call);
      word = made ∙ ap (λ (regs : Regs). word_of regs.e regs.d) c.regs-regs.ensures ∙ asked_word c.args.p c.args.seg c.args.system.now ∙ ap (λ (call : Taken). call.word) (sym kept.call);
    }

pub pop-requires : goal.pop-requires
pop-requires c =
    record {
      lives = own_lives c.args.p c.args.seg c.args.system.now c.take_own.new.self c.serve_own-value.new.self c.requires.whole c.requires.makes (c.take_own.ensures c.args.seg)
          c.serve_own-value.ensures.system;
    }

pub place_value-requires : goal.place_value-requires
place_value-requires c =
    record {
      lives = lives_popped c.args.p c.args.seg c.serve_own-value.new.self c.pop.new.self
          (own_lives c.args.p c.args.seg c.args.system.now c.take_own.new.self c.serve_own-value.new.self c.requires.whole c.requires.makes (c.take_own.ensures c.args.seg)
          c.serve_own-value.ensures.system) c.pop.ensures;
    }

pub overflow_add-system : goal.overflow_add-system
overflow_add-system c =
    omega (
      arith,
      c.requires.most,
      own_steps c.serve_own-value.result c.args.p c.args.seg c.args.system.now c.take_own.new.self c.serve_own-value.new.self c.pop.new.self c.place_value.new.self (record {
        kept_is = c.take_own.ensures c.args.seg;
        done_is = c.serve_own-value.ensures.system;
        reply_is = c.serve_own-value.ensures.reply;
        gone_is = c.pop.ensures;
        told_is = c.place_value.ensures (asked c.args.p c.args.seg c.args.system.now) c.args.seg;
      }),
    )

pub returns : goal.returns
returns c = record {
  system = own_call_made c.serve_own-value.result c.args.p c.args.seg c.args.system.now c.take_own.new.self c.serve_own-value.new.self c.pop.new.self c.place_value.new.self
      c.requires.whole c.requires.makes (record {
        kept_is = c.take_own.ensures c.args.seg;
        done_is = c.serve_own-value.ensures.system;
        reply_is = c.serve_own-value.ensures.reply;
        gone_is = c.pop.ensures;
        told_is = c.place_value.ensures (asked c.args.p c.args.seg c.args.system.now) c.args.seg;
      });
  emitted = (
    _,
    sym (own_call_written c.serve_own-value.result c.args.p c.args.seg c.args.system.now c.take_own.new.self c.serve_own-value.new.self c.pop.new.self c.place_value.new.self
        c.requires.whole c.requires.makes (record {
          kept_is = c.take_own.ensures c.args.seg;
          done_is = c.serve_own-value.ensures.system;
          reply_is = c.serve_own-value.ensures.reply;
          gone_is = c.pop.ensures;
          told_is = c.place_value.ensures (asked c.args.p c.args.seg c.args.system.now) c.args.seg;
        })),
  );
}
