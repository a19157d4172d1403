use Rattle.std.proofs.Common.{rules, [], ◌∷◌, inr, inl}
use Rattle.stab_word.proofs.StepLists.{one_more}
use Rattle.stab_word.specs.declared.words.FrameWord.TheVariants as frame
use Rattle.stab_word.specs.declared.view.RecvStep.TheVariants as recv_step
use Rattle.stab_word.proofs.recv.WordRecvRecvSide.poll_frame.Goals as goal
use Rattle.stab_word.proofs.recv.WordRecvRecvSide.poll_frame.Goals.{then-len-capacity+in-Full+else-frame-self+in_ok-reserve-in-Full, else-len-capacity}

-- ---- a look

pub returns-in-Empty-clause-call : goal.returns-in-Empty-clause-call
returns-in-Empty-clause-call c =
    record {
      unchanged = search rules;
      closed = search rules;
      still_open = λ still. (recv_step.FrameLook frame.Empty ∷ [], search rules, (search rules, search rules));
      acts = search rules;
    }

pub returns-in-Closed-clause-call : goal.returns-in-Closed-clause-call
returns-in-Closed-clause-call c =
    record {
      unchanged = search rules;
      closed = search rules;
      still_open = λ still. (recv_step.FrameLook frame.Closed ∷ [], search rules, (search rules, search rules));
      acts = search rules;
    }

pub returns-then-frame-self-clause-call : goal.returns-then-frame-self-clause-call
returns-then-frame-self-clause-call c =
    record {
      unchanged = search rules;
      closed = search rules;
      still_open = λ still. (
        recv_step.FrameLook (frame.Full c.in-Full.frame) ∷ [],
        search rules,
        (search rules, inl (search rules, search rules)),
      );
      acts = search rules;
    }

pub returns-in_err-reserve-in-Full-clause-call : goal.returns-in_err-reserve-in-Full-clause-call
returns-in_err-reserve-in-Full-clause-call c =
    record {
      unchanged = search rules;
      closed = search rules;
      still_open = λ still. (
        recv_step.FrameLook (frame.Full c.in-Full.frame) ∷ [],
        search rules,
        (search rules, inr (search rules, search rules)),
      );
      acts = search rules;
    }

-- ---- a load, alone or after a look

pub returns-then-frame-self-2-clause-call : goal.returns-then-frame-self-2-clause-call
returns-then-frame-self-2-clause-call c =
    let load = recv_step.FrameLoad (frame.Full c.in-Full-frame_load.frame) in
    record {
      unchanged = search rules;
      closed = search rules;
      still_open = λ still. elim c.if-len-capacity.branch [
        | then-len-capacity+in-Full+else-frame-self+in_ok-reserve-in-Full w ↦
            let look = recv_step.FrameLook (frame.Full w.in-Full.frame) in (
              look ∷ load ∷ [],
              one_more c.args.self.now.steps w.frame_look.new.seat.view.steps c.frame_load.new.seat.view.steps look load
                  (search rules) (search rules),
              (search rules, search rules, search rules),
            )
        | else-len-capacity w ↦ (load ∷ [], search rules, (search rules, search rules))
      ];
      acts = search rules;
    }

pub returns-in-Empty-frame_load-clause-call : goal.returns-in-Empty-frame_load-clause-call
returns-in-Empty-frame_load-clause-call c =
    let load = recv_step.FrameLoad frame.Empty in
    record {
      unchanged = search rules;
      closed = search rules;
      still_open = λ still. elim c.if-len-capacity.branch [
        | then-len-capacity+in-Full+else-frame-self+in_ok-reserve-in-Full w ↦
            let look = recv_step.FrameLook (frame.Full w.in-Full.frame) in (
              look ∷ load ∷ [],
              one_more c.args.self.now.steps w.frame_look.new.seat.view.steps c.frame_load.new.seat.view.steps look load
                  (search rules) (search rules),
              (search rules, search rules, search rules),
            )
        | else-len-capacity w ↦ (load ∷ [], search rules, (search rules, search rules))
      ];
      acts = search rules;
    }

pub returns-in-Closed-frame_load-clause-call : goal.returns-in-Closed-frame_load-clause-call
returns-in-Closed-frame_load-clause-call c =
    let load = recv_step.FrameLoad frame.Closed in
    record {
      unchanged = search rules;
      closed = search rules;
      still_open = λ still. elim c.if-len-capacity.branch [
        | then-len-capacity+in-Full+else-frame-self+in_ok-reserve-in-Full w ↦
            let look = recv_step.FrameLook (frame.Full w.in-Full.frame) in (
              look ∷ load ∷ [],
              one_more c.args.self.now.steps w.frame_look.new.seat.view.steps c.frame_load.new.seat.view.steps look load
                  (search rules) (search rules),
              (search rules, search rules, search rules),
            )
        | else-len-capacity w ↦ (load ∷ [], search rules, (search rules, search rules))
      ];
      acts = search rules;
    }

pub returns-else-frame-self-2-clause-call : goal.returns-else-frame-self-2-clause-call
returns-else-frame-self-2-clause-call c =
    let load = recv_step.FrameLoad (frame.Full c.in-Full-frame_load.frame) in
    record {
      unchanged = search rules;
      closed = search rules;
      still_open = λ still. elim c.if-len-capacity.branch [
        | then-len-capacity+in-Full+else-frame-self+in_ok-reserve-in-Full w ↦
            let look = recv_step.FrameLook (frame.Full w.in-Full.frame) in (
              look ∷ load ∷ [],
              one_more c.args.self.now.steps w.frame_look.new.seat.view.steps c.frame_load.new.seat.view.steps look load
                  (search rules) (search rules),
              (search rules, search rules, search rules),
            )
        | else-len-capacity w ↦ (load ∷ [], search rules, (search rules, search rules))
      ];
      acts = search rules;
    }
