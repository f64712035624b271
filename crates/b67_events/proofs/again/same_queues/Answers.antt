use Rattle.b67_events.proofs.again.same_queues.Goals as goal
