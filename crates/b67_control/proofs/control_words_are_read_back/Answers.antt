use Rattle.b67_control.proofs.ControlLaws.{irw_laws, sirw_laws, mscw_laws, rcw_laws, segment_laws, event_laws, descriptor_laws, pcw_laws, operands_apart}
use Rattle.b67_control.proofs.control_words_are_read_back.Goals as goal

pub returns-clause-irw : goal.returns-clause-irw
returns-clause-irw c = irw_laws

pub returns-clause-sirw : goal.returns-clause-sirw
returns-clause-sirw c = sirw_laws

pub returns-clause-mscw : goal.returns-clause-mscw
returns-clause-mscw c = mscw_laws

pub returns-clause-rcw : goal.returns-clause-rcw
returns-clause-rcw c = rcw_laws

pub returns-clause-segment : goal.returns-clause-segment
returns-clause-segment c = segment_laws

pub returns-clause-event : goal.returns-clause-event
returns-clause-event c = event_laws

pub returns-clause-descriptor : goal.returns-clause-descriptor
returns-clause-descriptor c = descriptor_laws

pub returns-clause-pcw : goal.returns-clause-pcw
returns-clause-pcw c = pcw_laws

pub returns-clause-operands : goal.returns-clause-operands
returns-clause-operands c = operands_apart
