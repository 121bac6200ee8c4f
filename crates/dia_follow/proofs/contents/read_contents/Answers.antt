use Rattle.dia_follow.proofs.contents.read_contents.Goals as goal

pub returns : goal.returns
returns c avps left front = record {
  host = c.first_data.ensures avps left front;
  session = c.first_data-2.ensures avps left front;
  result = c.first_number.ensures avps left front;
  has_result = c.has.ensures avps left front;
  experimental = c.experimental.ensures avps left front;
  has_experimental = c.has-2.ensures avps left front;
  cause = c.first_number-2.ensures avps left front;
  destination = c.has_destination.ensures avps left front;
  origin_state = c.first_number-3.ensures avps left front;
  apps = c.in_ok-apps.ensures avps left front;
}
