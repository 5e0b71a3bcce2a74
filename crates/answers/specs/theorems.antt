pub mod Hazards  -- how many hazards a call may report
