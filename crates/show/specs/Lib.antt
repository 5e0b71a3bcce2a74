pub mod Digits  -- the digits of a number
pub mod Text  -- the text of numbers and slots
pub mod Printed  -- what is printed
