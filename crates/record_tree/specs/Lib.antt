-- What reading a record up to 24 finds and leaves in the work space.
pub mod Found
