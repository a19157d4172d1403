use Rattle.std.proofs.Common.{◌≡◌, All, drop, length, map, take, vec_len, vec_capacity}
use Rattle.std.specs.List.{AllZip}
use Rattle.stab_ends.specs.Accounts.{new_receiver, new_sender}
use Rattle.stab_run.specs.AnyLinks.{IsOpenedBy, Receives, Sends}
use Rattle.stab_run.specs.Scripted.{ScriptedRecvEnd, ScriptedSendEnd, plan}
use Rattle.stab_run.proofs.ends.split_all.Given as goal

-- the ends so far are those of the links so far and follow their scripts, each link that is left
-- has its opening, and there is room for all
abbrev pub invariant-links : goal.invariant-links
invariant-links g l = record {
  send_room : vec_capacity l.sends ≡ length l.links;
  recv_room : vec_capacity l.recvs ≡ length l.links;
  send_count : vec_len l.sends ≡ l.place;
  recv_count : vec_len l.recvs ≡ l.place;
  senders : AllZip (λ link end. Sends link end) (take l.place l.links) l.sends.items;
  receivers : AllZip (λ link end. Receives link end) (take l.place l.links) l.recvs.items;
  send_plans : map (λ (end : ScriptedSendEnd). end.link.plan) l.sends.items ≡ map (plan l.fn.turns) (take l.place l.scripts);
  recv_plans : map (λ (end : ScriptedRecvEnd). end.link.plan) l.recvs.items ≡ map (plan l.fn.turns) (take l.place l.scripts);
  new_senders : All (λ (end : ScriptedSendEnd). end.account ≡ new_sender) l.sends.items;
  new_receivers : All (λ (end : ScriptedRecvEnd). end.account ≡ new_receiver) l.recvs.items;
  openings : AllZip IsOpenedBy (drop l.place l.links) l.openings.items;
}
